-- What a run of `patchgen` promises: that it is the command's, and what stands at each moment.
use Rattle.std.specs.Prelude.{◌≡◌, ◌⊎◌, ℕ, List, Bool, true, false, Option, Some, None, Result, Ok, Err}
use Rattle.line_list.specs.Completed.{completed}
use Rattle.outside.specs.Files.{Files}
use Rattle.outside.specs.TreeView.{TreeView, Passes}
use Rattle.outside.specs.SinkView.{SinkView, SinkPasses}
use Rattle.outside.specs.ScratchView.{ScratchView, ScratchPasses}
use Rattle.outside.specs.Quiet.{IsQuiet, TellsPrefix, after_all}
use Rattle.read_file_patch.specs.PlainPatch.{PlainPatch}
use Rattle.patch_options.specs.declared.options.WordFault.{WordFault}
use Rattle.cli_tool_words.specs.PlainJobs.{PlainGenJob}
use Rattle.read_patch_text.specs.Patches.{patches_of}
use Rattle.patch_set.specs.Asked.{ways_of}
use Rattle.patch_set.specs.Named.{known_names, output_of}
use Rattle.apply_task.specs.Making.{IsTidy}
use Rattle.apply_task.specs.declared.fault.RunFault.{RunFault}
use Rattle.patch_run.specs.Applied.{Receipt}
use Rattle.patch_run.specs.Run.{Run}
use Rattle.patch_run.specs.Doing.{IsCutAt, ReceivesBehind}
use Rattle.cli_run_answers.specs.declared.why.Why.{Why}
use Rattle.cli_run_answers.specs.declared.why.Why.TheVariants.{WriteFault, TreeFault, Memory}
use Rattle.cli_run_answers.specs.Answers.{of_run, is_early, is_ended, is_fault, is_own, is_through}
use Rattle.cli_run_answers.specs.Moments.{FirstPart, IsAsAtEntry, LeavesAllowed, LeavesOldOrNew}
use Rattle.cli_run_answers.specs.Worlds.{World, NoneFailed}
use Rattle.patch_run.specs.Scratches.{is_paged, scratch_behind_all}
use Rattle.patch_run.specs.Outcome.{Outcome, items_for}
use Rattle.patch_run.specs.Answer.{HasReceipt, IsAnswer}
use Rattle.cli_gen.specs.Jobs.{AsksFor, options_for}
use Rattle.cli_gen.specs.Command.{command, file_puts, patch_text, run_over, summary}
use Rattle.cli_gen.specs.Worlds.{Tells}
use Rattle.cli_gen.specs.Causes.{HasCause}

-- a first part after a fault or where memory ran out, else all
abbrev pub Answers : Bool → Why → Option Receipt → Files → World → World → Outcome → Type 0
Answers true why given f u w o = IsAnswer why given f w.tree u.out w.out o
Answers false why given f u w o = FirstPart u.tree w.tree u.out w.out o.effects o.text

-- a file couldn't be put: a first part of the files was, and nothing was written
pub record IsCutPutting (why : Why) (j : PlainGenJob) (u w : TreeView) (a b : ScratchView) (c d : SinkView) : Type 0 where
  pub is : why ≡ TreeFault
  pub tells : TellsPrefix u w (file_puts j)
  pub scratch : b ≡ a
  pub out : d ≡ c

-- the files were put, and no more was done
pub record IsCutBefore (j : PlainGenJob) (f : Files) (w : TreeView) (a b : ScratchView) (c d : SinkView) : Type 0 where
  pub files : w.told ≡ Some (after_all (file_puts j) f)
  pub scratch : b ≡ a
  pub out : d ≡ c

-- the patch that is made is read so
abbrev pub Reads : PlainGenJob → List PlainPatch → Type 0
Reads j ps = patches_of (ways_of (options_for j)) (completed (patch_text j)) ≡ Ok ps

-- the files were put, and the run over the file patches was cut off at one of them, those in front of it having come to their ends; of
-- that one nothing is done before all that it says is in the output
pub record IsCutRun (why : Why) (j : PlainGenJob) (f : Files) (w : TreeView) (c d : SinkView) : Type 0 where
  pub patches : List PlainPatch
  pub read : Reads j patches
  pub fault : RunFault
  pub is : why ≡ of_run fault
  pub cut : IsCutAt fault w c d (options_for j) (output_of (options_for j) (known_names (options_for j) patches)) (items_for (options_for j) (completed (patch_text j)) patches) (after_all (file_puts j) f)

-- the run came to its end, and of its summary a first part is written
pub record IsCutTelling (why : Why) (j : PlainGenJob) (r : Run) (w : TreeView) (c d : SinkView) : Type 0 where
  pub is : (why ≡ TreeFault) ⊎ (why ≡ WriteFault)
  pub going : r.stop ≡ None
  pub files : w.told ≡ Some r.files
  pub said : ReceivesBehind c d r.said (summary j r)

-- of the run over the file patches that are read
abbrev pub IsCutBehind : Why → PlainGenJob → Files → TreeView → SinkView → SinkView → Type 0
IsCutBehind why j f w c d = (ps : List PlainPatch) × Reads j ps × IsCutTelling why j (run_over j ps f) w c d

-- after a fault, or where memory ran out: nothing was begun, or the command was cut off at one of its steps
abbrev pub BreaksOff : Why → Result PlainGenJob WordFault → World → World → Files → Type 0
BreaksOff why job u w f = IsAsAtEntry u.tree w.tree u.scratch w.scratch u.out w.out ⊎ AsksFor job (λ j. IsCutPutting why j u.tree w.tree u.scratch w.scratch u.out w.out
    ⊎ (IsCutBefore j f w.tree u.scratch w.scratch u.out w.out ⊎ (IsCutRun why j f w.tree u.out w.out ⊎ IsCutBehind why j f w.tree u.out w.out)))

-- where every file is kept in the scratch, want of memory came before the run over the file patches
abbrev pub StarvesEarly : Result PlainGenJob WordFault → World → World → Files → Type 0
StarvesEarly (Ok j) u w f = is_paged j.plan ≡ true → IsAsAtEntry u.tree w.tree u.scratch w.scratch u.out w.out ⊎ IsCutBefore j f w.tree u.scratch w.scratch u.out w.out
StarvesEarly (Err fault) u w f = Unit {0}

-- all that is promised of a run of the words that ask for this, from one state of its devices to another
pub record Carries (job : Result PlainGenJob WordFault) (u w : World) (why : Why) (given : Option Receipt) : Type 0 where
  pub tree : Passes u.tree w.tree
  pub scratch : ScratchPasses u.scratch w.scratch
  pub sink : SinkPasses u.out w.out
  pub cause : HasCause why job u w
  -- a refusal comes before a file is put
  pub untouched : is_early why ≡ true → IsAsAtEntry u.tree w.tree u.scratch w.scratch u.out w.out
  -- after an end each crash from then on leaves all effects
  pub quiet : is_through why ≡ true → IsQuiet w.tree
  pub receipt : HasReceipt why given
  pub answers : (f : Files) → Tells job u f → Answers (is_own why) why given f u w (command job f)
  pub images : (f : Files) → Tells job u f → LeavesAllowed u.tree w.tree f (command job f).effects
  -- wherever the run is stopped, each file holds its old bytes or its completed new ones
  pub names : (f : Files) → Tells job u f → LeavesOldOrNew u.tree w.tree f (command job f).effects
  pub starved : why ≡ Memory → (f : Files) → Tells job u f → StarvesEarly job u w f
  pub cut : is_own why ≡ false → (f : Files) → Tells job u f → BreaksOff why job u w f
  -- unless a device failed, no temporary is left that the run started
  pub tidy : is_fault why ≡ false → IsTidy u.tree w.tree
  -- the scratch holds the pages of the last file that was kept there, or what it held
  pub pages : is_ended why ≡ true → (f : Files) (before : List ℕ) → Tells job u f → u.scratch.told ≡ Some before
      → AsksFor job (λ j. w.scratch.told ≡ Some (scratch_behind_all (options_for j) (command job f).taken before))
  -- where all is told and no device failed, only want of memory stands between the command and its answer
  pub complete : (f : Files) → Tells job u f → NoneFailed u w → IsAnswer why given f w.tree u.out w.out (command job f) ⊎ (why ≡ Memory)
