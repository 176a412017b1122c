use Rattle.std.proofs.Common.{◌≡◌, ◌≤◌, ◌^◌, length}
use Rattle.hunk_core.specs.declared.Side.TheVariants.{Reversed}
use Rattle.format_convert.specs.Commands.{ed_lines}
use Rattle.format_convert.specs.Fronts.{front}
use Rattle.format_convert.specs.Walk.{edits_left}
use Rattle.format_convert.proofs.Parts.{Written}
use Rattle.format_convert.proofs.ed.put_added.Given as goal

abbrev pub invariant-loop-found : goal.invariant-loop-found
invariant-loop-found g l = record {
  written : Written g.O.Sink.view g.O.Sink.same_rest l.fn.out l.out (ed_lines (front Reversed l.fn.block.first (edits_left l.kept l.fn.place))) (ed_lines (front Reversed l.gap (edits_left l.kept l.at)));
  left : l.left ≡ length (front Reversed l.gap (edits_left l.kept l.at));
  near : l.gap ≤ 2 ^ 44;
}

abbrev pub decreases-loop-found : goal.decreases-loop-found
decreases-loop-found g l = length (edits_left l.kept l.at)
