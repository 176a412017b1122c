-- The receipt of an answer, and which answers have one.
use Rattle.std.proofs.Common.{◌≡◌, Bool, true, false, if◌then◌else◌, Some, None, refl}
use Rattle.apply_task.specs.declared.fault.RunFault.{RunFault}
use Rattle.apply_task.specs.declared.fault.RunFault.TheVariants as runs
use Rattle.patch_run.specs.Applied.{Receipt}
use Rattle.cli_run_answers.specs.declared.why.Why.TheVariants.{Done, Rejected, Memory}
use Rattle.cli_run_answers.specs.Answers.{of_run}
use Rattle.patch_run.specs.Answer.{HasReceipt}

-- a run that was cut off has none
pub receipt_fault : (e : RunFault) → HasReceipt (of_run e) None
receipt_fault runs.Tree = refl
receipt_fault runs.Write = refl
receipt_fault runs.Scratch = refl
receipt_fault (runs.LongLine line length) = refl
receipt_fault (runs.FileTooLong length) = refl
receipt_fault (runs.Disagree want got) = refl
receipt_fault runs.Memory = refl

-- the two ends have one
pub receipt_end : (bad : Bool) (r : Receipt) → r.is_bad ≡ bad → HasReceipt (if bad then Rejected else Done) (Some r)
receipt_end true r is = is
receipt_end false r is = is

pub memory_end : (bad : Bool) → (if bad then Rejected else Done) ≡ Memory → ⊥
memory_end true is = absurd (cc)
memory_end false is = absurd (cc)
