use Rattle.outside.proofs.SinkSteps.{has-none, puts-done}
use Rattle.normal_form.proofs.writing.put_if.Goals as goal

pub returns-else-is_taken : goal.returns-else-is_taken
returns-else-is_taken g c = rw (← c.if-is_taken.ensures) (puts-done tt (has-none g.met.O.Sink.rest_none c.args.out.now))

pub returns-then-is_taken : goal.returns-then-is_taken
returns-then-is_taken g c = rw (← c.if-is_taken.ensures) c.put_line.ensures
