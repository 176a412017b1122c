use Rattle.std.proofs.Common.{sym}
use Rattle.apply_task.proofs.names.written.Goals as goal

pub returns-in-Some-clause-named : goal.returns-in-Some-clause-named
returns-in-Some-clause-named c = c.requires.task.ready.output _ (sym c.in-Some.ensures)
