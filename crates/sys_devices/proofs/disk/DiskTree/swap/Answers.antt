use Rattle.std.proofs.lemmas.Option.{none-some}
use Rattle.std.proofs.Common.{[]}
use Rattle.sys_devices.proofs.Silent.{becomes, is_call, on_err, on_ok, quiet, sealed, spoils, stays}
use Rattle.sys_devices.proofs.disk.DiskTree.swap.Goals as goal

pub returns-clause-call : goal.returns-clause-call
returns-clause-call g c = is_call _ _ _ c.answer-told.ensures.counts c.answer-told.ensures.cause

pub returns-clause-ok : goal.returns-clause-ok
returns-clause-ok g c = becomes _ _

pub returns-clause-sealed : goal.returns-clause-sealed
returns-clause-sealed g c = on_ok _ stays

pub returns-clause-gone : goal.returns-clause-gone
returns-clause-gone g c = on_ok _ (sealed [])

pub returns-clause-err : goal.returns-clause-err
returns-clause-err g c = spoils _ _

pub returns-clause-seals : goal.returns-clause-seals
returns-clause-seals g c q ne other was = was

pub returns-clause-seal : goal.returns-clause-seal
returns-clause-seal g c = on_err _ stays

pub returns-clause-quiet : goal.returns-clause-quiet
returns-clause-quiet g c q ne = quiet _ _ _ q

pub returns-clause-crash : goal.returns-clause-crash
returns-clause-crash g c sealed is f left told may = absurd (none-some f told)
