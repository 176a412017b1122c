use Rattle.std.proofs.Common.{◌≡◌, ◌++◌, drop}
use Rattle.outside.proofs.SinkSteps.{HasPut}
use Rattle.format_convert.specs.Backward.{StandsBehind, text_behind}
use Rattle.format_convert.specs.Blocks.{blocks_of}
use Rattle.format_convert.specs.Walk.{edits_of, pairs}
use Rattle.format_convert.proofs.ed.put_ed.Given as goal

abbrev pub invariant-loop-hunk : goal.invariant-loop-hunk
invariant-loop-hunk g l = record {
  put : HasPut g.O.Sink.view g.O.Sink.same_rest l.fn.out l.out (text_behind (blocks_of (edits_of l.kept.set.now.text (drop l.hunk (pairs l.kept)))));
  stands : StandsBehind l.kept l.hunk l.front;
}
