use Rattle.std.proofs.Common.{refl}
use Rattle.sys_devices.proofs.Silent.{if_kept, if_ok, if_ok_then, on_err}
use Rattle.sys_devices.proofs.streams.InputSource.read.Goals as goal

pub returns-clause-count : goal.returns-clause-count
returns-clause-count g c = if_kept _ _ _ c.answer.ensures.kept c.read_some-read.ensures

pub returns-clause-bytes : goal.returns-clause-bytes
returns-clause-bytes g c = if_ok _ _

pub returns-clause-left : goal.returns-clause-left
returns-clause-left g c = if_ok _ _

pub returns-clause-end : goal.returns-clause-end
returns-clause-end g c = if_ok_then _ _ _ _

pub returns-clause-failed : goal.returns-clause-failed
returns-clause-failed g c = on_err _ refl
