use Rattle.std.proofs.Common.{refl}
use Rattle.sys_devices.proofs.Silent.{fixed, is_call, on_ok}
use Rattle.sys_devices.proofs.disk.DiskTree.fix_names.Goals as goal

pub returns-clause-call : goal.returns-clause-call
returns-clause-call g c = is_call _ _ _ c.answer.ensures.counts c.answer.ensures.cause

pub returns-clause-fixed : goal.returns-clause-fixed
returns-clause-fixed g c = on_ok _ (fixed _)

pub returns-clause-same : goal.returns-clause-same
returns-clause-same g c = refl

pub returns-clause-seals : goal.returns-clause-seals
returns-clause-seals g c q was = was

pub returns-clause-crash : goal.returns-clause-crash
returns-clause-crash g c x left = left
