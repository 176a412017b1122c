use Rattle.outside.proofs.SinkSteps.{HasPut}
use Rattle.outside.proofs.Loops.{up_to}
use Rattle.patch_options.specs.PlainJob.{plain_options}
use Rattle.apply_start.specs.Skipping.{change_line}
use Rattle.apply_start.proofs.skipping.put_changes.Given as goal

abbrev pub invariant-loop-change : goal.invariant-loop-change
invariant-loop-change g l = HasPut g.O.Sink.view g.O.Sink.same_rest l.fn.out l.out (up_to (change_line (plain_options l.options)) l.changes l.change-index)
