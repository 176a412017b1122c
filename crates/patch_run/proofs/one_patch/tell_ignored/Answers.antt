use Rattle.patch_run.proofs.one_patch.tell_ignored.Goals as goal

pub returns-then-is_bare-clause-rest : goal.returns-then-is_bare-clause-rest
returns-then-is_bare-clause-rest g c = g.met.O.Sink.rest_none _

pub returns-clause-rest : goal.returns-clause-rest
returns-clause-rest g c = c.say_ignored.ensures.rest

pub hunks-requires : goal.hunks-requires
hunks-requires g c = c.requires.turn.task.fit.hunks
