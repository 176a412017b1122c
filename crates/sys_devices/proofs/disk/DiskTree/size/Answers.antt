use Rattle.sys_devices.proofs.Silent.{if_ok, is_call, untouched}
use Rattle.sys_devices.proofs.disk.DiskTree.size.Goals as goal

pub returns-clause-call : goal.returns-clause-call
returns-clause-call g c = is_call _ _ _ c.answer.ensures.counts c.answer.ensures.cause

pub returns-clause-untouched : goal.returns-clause-untouched
returns-clause-untouched g c = untouched _ _ c.answer.ensures.counts

pub returns-clause-size : goal.returns-clause-size
returns-clause-size g c = if_ok _ _
