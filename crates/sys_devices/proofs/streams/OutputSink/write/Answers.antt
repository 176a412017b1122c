use Rattle.std.proofs.lemmas.Option.{none-some}
use Rattle.sys_devices.proofs.streams.OutputSink.write.Goals as goal

pub returns-in-Ok-clause-call : goal.returns-in-Ok-clause-call
returns-in-Ok-clause-call g c = record { passes = record { counts = c.answer.ensures.counts; silent = λ none. none }; cause = c.in-Ok.ensures.cause }

pub returns-in-Ok-clause-received : goal.returns-in-Ok-clause-received
returns-in-Ok-clause-received g c b told = absurd (none-some b told)

pub returns-in-Err-clause-call : goal.returns-in-Err-clause-call
returns-in-Err-clause-call g c = record { passes = record { counts = c.answer.ensures.counts; silent = λ none. none }; cause = c.in-Err.ensures.cause }

pub returns-in-Err-clause-failed : goal.returns-in-Err-clause-failed
returns-in-Err-clause-failed g c b told = absurd (none-some b told)
