use Rattle.std.proofs.Common.{◌-◌, ◌<◌, ◌≤◌, length}
use Rattle.cli_run_answers.specs.Input.{Takes}
use Rattle.cli_run_answers.proofs.stream.read_source.Given as goal

abbrev pub invariant-pieces : goal.invariant-pieces
invariant-pieces g l = record {
  some : 0 < length l.piece.items;
  room : length l.text.items ≤ 268435456;
  taken : Takes (g.I.Source.view l.fn.source) (g.I.Source.view l.source) l.text.items;
}

abbrev pub decreases-pieces : goal.decreases-pieces
decreases-pieces g l = 268435457 - length l.text.items
