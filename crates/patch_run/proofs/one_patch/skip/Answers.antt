use Rattle.outside.proofs.Exits.{if_ok_none}
use Rattle.std.proofs.lemmas.Bool.{false≢true}
use Rattle.patch_run.proofs.one_patch.skip.Goals as goal

pub returns-clause-rest : goal.returns-clause-rest
returns-clause-rest g c = c.in_ok-tell_ignored.ensures.rest

pub returns-in_err-tell_ignored-clause-rest : goal.returns-in_err-tell_ignored-clause-rest
returns-in_err-tell_ignored-clause-rest g c = c.in_err-tell_ignored.ensures.rest

pub tell_ignored-requires : goal.tell_ignored-requires
tell_ignored-requires g c = record { turn = c.requires.turn }

pub returns-in_err-tell_ignored-clause-done : goal.returns-in_err-tell_ignored-clause-done
returns-in_err-tell_ignored-clause-done g c = if_ok_none _ _ c.from_residual.result c.from_residual.ensures.1

pub returns-clause-done : goal.returns-clause-done
returns-clause-done g c = c.unplaced.ensures

pub returns-clause-fault : goal.returns-clause-fault
returns-clause-fault g c = tt

pub returns-clause-writes : goal.returns-clause-writes
returns-clause-writes g c = record { call = record { passes = c.in_ok-tell_ignored.ensures.writes.call.passes; cause = λ err. absurd (false≢true err) }; received = c.in_ok-tell_ignored.ensures.writes.received; failed = tt }
