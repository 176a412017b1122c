use Rattle.outside.proofs.SinkSteps.{has-none, puts-done}
use Rattle.flip_patch.proofs.headers.put_named_line.Goals as goal

pub returns-in-Some : goal.returns-in-Some
returns-in-Some g c = rw (c.in-Some.is, ← c.rest_of_line.ensures) c.put_both.ensures

pub returns-in-None : goal.returns-in-None
returns-in-None g c = rw c.in-None.is (puts-done tt (has-none g.met.O.Sink.rest_none c.args.out.now))
