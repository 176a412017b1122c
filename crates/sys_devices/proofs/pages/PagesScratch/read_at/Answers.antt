use Rattle.std.proofs.Common.{refl}
use Rattle.sys_devices.proofs.Silent.{if_kept, if_ok, scratch_call}
use Rattle.sys_devices.proofs.pages.PagesScratch.read_at.Goals as goal

pub returns-clause-call : goal.returns-clause-call
returns-clause-call g c = scratch_call _ _ _ _ _ c.answer.ensures.counts c.answer.ensures.cause

pub returns-clause-same : goal.returns-clause-same
returns-clause-same g c = refl

pub returns-clause-count : goal.returns-clause-count
returns-clause-count g c = if_kept _ _ _ c.answer.ensures.kept c.read-done.ensures

pub returns-clause-bytes : goal.returns-clause-bytes
returns-clause-bytes g c = if_ok _ _
