-- How the summary is written behind a run.
use Rattle.std.specs.Prelude.{◌≡◌, ◌⊎◌, ℕ, List, Some, Result, IfOk, IfErr, OnOk}
use Rattle.outside.specs.Files.{Files}
use Rattle.outside.specs.TreeView.{TreeView, Rises}
use Rattle.outside.specs.Calls.{IsUntouched}
use Rattle.outside.specs.SinkView.{SinkView, SinkPasses, Receives, ReceivesPart}
use Rattle.outside.specs.SinkView as sink
use Rattle.patch_run.specs.Applied.{Receipt}
use Rattle.cli_run_answers.specs.declared.why.Why.{Why}
use Rattle.cli_run_answers.specs.declared.why.Why.TheVariants.{WriteFault, TreeFault}

-- the files couldn't be measured, and nothing was written
pub record IsUnmeasured (why : Why) (t w : TreeView) (c d : SinkView) : Type 0 where
  pub is : why ≡ TreeFault
  pub cause : Rises t w
  pub out : d ≡ c

-- a first part of the line was written
pub record IsUnwritten (why : Why) (t : TreeView) (c d : SinkView) (line : Files → List ℕ) : Type 0 where
  pub is : why ≡ WriteFault
  pub cause : sink.Rises c d
  pub part : (f : Files) → t.told ≡ Some f → ReceivesPart c d (line f)

-- the files are measured, and then the line of a run that came to its end is written
pub record TellsOf (given : Receipt) (line : Files → List ℕ) (t w : TreeView) (c d : SinkView) (result : Result Receipt Why) : Type 0 where
  pub tree : IsUntouched t w
  pub sink : SinkPasses c d
  pub same : IfOk result (λ receipt. receipt ≡ given)
  pub written : OnOk result ((f : Files) → t.told ≡ Some f → Receives c d (line f))
  pub failed : IfErr result (λ why. IsUnmeasured why t w c d ⊎ IsUnwritten why t c d line)
