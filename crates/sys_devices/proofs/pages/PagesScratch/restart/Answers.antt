use Rattle.sys_devices.proofs.Silent.{becomes, scratch_call}
use Rattle.sys_devices.proofs.pages.PagesScratch.restart.Goals as goal

pub returns-clause-call : goal.returns-clause-call
returns-clause-call g c = scratch_call _ _ _ _ _ c.answer.ensures.counts c.answer.ensures.cause

pub returns-clause-ok : goal.returns-clause-ok
returns-clause-ok g c = becomes _ _
