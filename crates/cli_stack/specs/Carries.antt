-- What a run of `patchstack` promises: that it is the command's, and what stands at each moment.
use Rattle.std.specs.Prelude.{◌≡◌, ◌⊎◌, Bool, true, false, Some, Result, Ok, Err}
use Rattle.outside.specs.Files.{Files, SameLasting}
use Rattle.outside.specs.TreeView.{Passes, MayLeave, LeftSince}
use Rattle.outside.specs.SinkView.{SinkPasses, Receives}
use Rattle.outside.specs.ScratchView.{ScratchPasses}
use Rattle.outside.specs.Quiet.{IsQuiet, after_all}
use Rattle.patch_options.specs.declared.options.WordFault.{WordFault}
use Rattle.apply_task.specs.Making.{IsTidy}
use Rattle.series_stack.specs.Laws.{Recovers, files_after}
use Rattle.stack_patch.specs.Reading.{read_patch}
use Rattle.cli_tool_words.specs.declared.jobs.StackOp.{StackOp}
use Rattle.cli_run_answers.specs.declared.why.Why.{Why}
use Rattle.cli_run_answers.specs.declared.why.Why.TheVariants.{Memory}
use Rattle.cli_run_answers.specs.Answers.{is_own, is_early, is_through}
use Rattle.cli_run_answers.specs.Moments.{FirstPart, IsAsAtEntry, LeavesAllowed, LeavesOldOrNew}
use Rattle.cli_run_answers.specs.Worlds.{World, NoneFailed}
use Rattle.cli_run_answers.specs.Outcomes.{Outcome}
use Rattle.cli_stack.specs.Jobs.{AsksFor, IsPushing, operation}
use Rattle.cli_stack.specs.Command.{command}
use Rattle.cli_stack.specs.Worlds.{Tells}
use Rattle.cli_stack.specs.Causes.{HasCause}

-- the answer of an outcome: its text, and the files after its effects, temporary names aside
pub record IsAnswer (why : Why) (f : Files) (u w : World) (o : Outcome) : Type 0 where
  pub is : why ≡ o.why
  pub text : Receives u.out w.out o.text
  pub files : (g : Files) → w.tree.told ≡ Some g → SameLasting (after_all o.effects f) g

-- a first part after a fault or where memory ran out, else all
abbrev pub Answers : Bool → Why → Files → World → World → Outcome → Type 0
Answers true why f u w o = IsAnswer why f u w o
Answers false why f u w o = FirstPart u.tree w.tree u.out w.out o.effects o.text

-- each crash since the call began leaves what one could have left at entry, or what recovers to the files before the command, or after it, as its count says
abbrev pub LeavesRecoverable : Result StackOp WordFault → World → World → Files → Type 0
LeavesRecoverable (Ok op) u w f = (c : Files) → LeftSince w.tree u.tree.moment c → MayLeave u.tree c ⊎ Recovers f (files_after read_patch (operation op) f) c
LeavesRecoverable (Err fault) u w f = Unit {0}

-- all that is promised of a run of the words that ask for this, from one state of its devices to another
pub record Carries (job : Result StackOp WordFault) (u w : World) (why : Why) : Type 0 where
  pub tree : Passes u.tree w.tree
  pub scratch : ScratchPasses u.scratch w.scratch
  pub sink : SinkPasses u.out w.out
  pub cause : HasCause why job u w
  pub untouched : is_early why ≡ true → IsAsAtEntry u.tree w.tree u.scratch w.scratch u.out w.out
  -- only a push keeps anything in the scratch
  pub unkept : (AsksFor job IsPushing → ⊥) → w.scratch ≡ u.scratch
  -- after an end each crash from then on leaves all effects
  pub quiet : is_through why ≡ true → IsQuiet w.tree
  pub answers : (f : Files) → Tells job u f → Answers (is_own why) why f u w (command job f)
  pub images : (f : Files) → Tells job u f → LeavesAllowed u.tree w.tree f (command job f).effects
  -- wherever the run is stopped, each file holds its old bytes or its completed new ones
  pub names : (f : Files) → Tells job u f → LeavesOldOrNew u.tree w.tree f (command job f).effects
  -- and what is left recovers
  pub recovers : (f : Files) → Tells job u f → LeavesRecoverable job u w f
  -- behind an answer of the command itself no temporary is left that the run started
  pub tidy : is_own why ≡ true → IsTidy u.tree w.tree
  -- where all is told and no device failed, only want of memory stands between the command and its answer
  pub complete : (f : Files) → Tells job u f → NoneFailed u w → IsAnswer why f u w (command job f) ⊎ (why ≡ Memory)
