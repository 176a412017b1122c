use Rattle.sys_devices.proofs.Silent.{if_kept, if_ok, is_call, untouched}
use Rattle.sys_devices.proofs.disk.DiskTree.read_at.Goals as goal

pub returns-clause-call : goal.returns-clause-call
returns-clause-call g c = is_call _ _ _ c.answer.ensures.counts c.answer.ensures.cause

pub returns-clause-untouched : goal.returns-clause-untouched
returns-clause-untouched g c = untouched _ _ c.answer.ensures.counts

pub returns-clause-bytes : goal.returns-clause-bytes
returns-clause-bytes g c = if_ok _ _

pub returns-clause-count : goal.returns-clause-count
returns-clause-count g c = if_kept _ _ _ c.answer.ensures.kept c.read_at-done.ensures
