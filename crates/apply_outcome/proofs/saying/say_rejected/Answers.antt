use Rattle.outside.specs.SinkView.{sink_passes_none}
use Rattle.std.proofs.lemmas.Bool.{false≢true}
use Rattle.apply_outcome.proofs.saying.say_rejected.Goals as goal

pub returns-then-session-eq0-clause-rest : goal.returns-then-session-eq0-clause-rest
returns-then-session-eq0-clause-rest g c = g.met.O.Sink.rest_none _

pub returns-clause-call : goal.returns-clause-call
returns-clause-call g c = c.say_failures.ensures.writes.call

pub returns-clause-rest : goal.returns-clause-rest
returns-clause-rest g c = c.say_failures.ensures.rest

pub returns-then-session-eq0-clause-call : goal.returns-then-session-eq0-clause-call
returns-then-session-eq0-clause-call g c = record { passes = sink_passes_none _; cause = λ err. absurd (false≢true err) }
