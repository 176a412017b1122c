-- The devices of a run, and what must be told of them.
use Rattle.std.specs.Prelude.{◌≡◌, ℕ, List, Bool, true, false, is_some, Some, Result, Ok, Err}
use Rattle.outside.specs.Files.{Files}
use Rattle.outside.specs.TreeView.{TreeView}
use Rattle.outside.specs.SinkView.{SinkView}
use Rattle.outside.specs.SourceView.{SourceView}
use Rattle.outside.specs.ScratchView.{ScratchView}
use Rattle.patch_options.specs.PlainJob.{PlainOptions, PlainJob}
use Rattle.patch_options.specs.PlainJob.PlainJob.{patch}
use Rattle.patch_options.specs.declared.options.WordFault.{WordFault}
use Rattle.patch_options.specs.declared.options.Input.{Input}
use Rattle.patch_options.specs.declared.options.Input.TheVariants.{Standard, File}
use Rattle.cli_run_answers.specs.Input.{IsTold}
use Rattle.patch_run.specs.Scratches.{has_scratch, is_paged}

-- what the devices of a run are seen as at one moment
pub record World : Type 1 where
  pub tree : TreeView
  pub scratch : ScratchView
  pub source : SourceView
  pub out : SinkView

abbrev pub world : TreeView → ScratchView → SourceView → SinkView → World
world tree scratch source out = record { tree = tree; scratch = scratch; source = source; out = out }

abbrev pub is_standard : Input → Bool
is_standard Standard = true
is_standard (File name) = false

-- the words read standard input
abbrev pub reads_source : Result PlainJob WordFault → Bool
reads_source (Ok (patch o)) = is_standard o.input
reads_source (Err fault) = false

-- the plan that they ask for has a scratch
abbrev pub uses_scratch : Result PlainJob WordFault → Bool
uses_scratch (Ok (patch o)) = has_scratch o.plan
uses_scratch (Err fault) = false

-- it keeps every file there
abbrev pub pages_all : Result PlainJob WordFault → Bool
pages_all (Ok (patch o)) = is_paged o.plan
pages_all (Err fault) = false

-- the tree tells these files, and the scratch its bytes where there is one
pub record TellsFiles (job : Result PlainJob WordFault) (w : World) (f : Files) : Type 0 where
  pub files : w.tree.told ≡ Some f
  pub scratch : uses_scratch job ≡ true → is_some w.scratch.told ≡ true

-- standard input tells what it has left, where it is read
abbrev pub TellsLeft : Result PlainJob WordFault → World → List ℕ → Type 0
TellsLeft job w left = reads_source job ≡ true → w.source.told ≡ Some left

-- what the patch text is read from is told: these files, or what standard input has left
abbrev pub TellsInput : Result PlainJob WordFault → World → Files → List ℕ → Type 0
TellsInput (Ok (patch o)) w f left = IsTold o.input w.tree w.source f left
TellsInput (Err fault) w f left = Unit {0}

-- the words ask for a patch, with options of which P holds
abbrev pub AsksFor : Result PlainJob WordFault → (PlainOptions → Type 0) → Type 0
AsksFor (Ok (patch o)) P = P o
AsksFor (Err fault) P = ⊥
