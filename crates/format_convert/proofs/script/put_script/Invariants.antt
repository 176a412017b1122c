use Rattle.outside.proofs.SinkSteps.{HasPut}
use Rattle.ed_form.specs.PlainEdit.{edits_of}
use Rattle.format_convert.specs.Backward.{text_behind}
use Rattle.format_convert.specs.Blocks.{blocks_of}
use Rattle.format_convert.specs.Runs.{IsRun, edits_before}
use Rattle.format_convert.proofs.script.put_script.Given as goal

abbrev pub invariant-loop-at : goal.invariant-loop-at
invariant-loop-at g l = record {
  put : HasPut g.O.Sink.view g.O.Sink.same_rest l.fn.out l.out (text_behind (blocks_of (edits_before (edits_of l.text l.script.edits.items) l.at)));
  run : IsRun (edits_of l.text l.script.edits.items) l.at l.run;
}
