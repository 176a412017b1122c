-- What an answer comes with: its text, its files and its receipt.
use Rattle.std.specs.Prelude.{◌≡◌, true, false, Option, Some, None, Result, Ok, Err, IsSomeAnd, if◌then◌else◌}
use Rattle.outside.specs.Files.{Files, SameLasting}
use Rattle.outside.specs.TreeView.{TreeView}
use Rattle.outside.specs.SinkView.{SinkView, Receives}
use Rattle.outside.specs.Quiet.{after_all}
use Rattle.patch_run.specs.Applied.{Receipt}
use Rattle.cli_run_answers.specs.declared.why.Why.{Why}
use Rattle.cli_run_answers.specs.declared.why.Why.TheVariants.{Done, Rejected}
use Rattle.patch_run.specs.Outcome.{Outcome}

-- the answer of a run that came to its end, or stopped
abbrev pub why_of : Result Receipt Why → Why
why_of (Ok receipt) = if receipt.is_bad then Rejected else Done
why_of (Err why) = why

abbrev pub receipt_of : Result Receipt Why → Option Receipt
receipt_of (Ok receipt) = Some receipt
receipt_of (Err why) = None

-- an answer of the command itself: its text, and the files after its effects
pub record IsAnswer (why : Why) (given : Option Receipt) (f : Files) (w : TreeView) (c d : SinkView) (o : Outcome) : Type 0 where
  pub is : why ≡ o.why
  pub text : Receives c d o.text
  pub files : w.told ≡ Some o.files
  -- which are the files at entry after the effects, temporary names aside
  pub made : SameLasting (after_all o.effects f) o.files
  pub applied : given ≡ o.applied

-- the receipt is there exactly where every file patch had its turn, and tells which of the two ends it was
abbrev pub HasReceipt : Why → Option Receipt → Type 0
HasReceipt Done applied = IsSomeAnd applied (λ r. r.is_bad ≡ false)
HasReceipt Rejected applied = IsSomeAnd applied (λ r. r.is_bad ≡ true)
HasReceipt why applied = applied ≡ None
