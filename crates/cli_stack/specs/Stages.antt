-- What a push comes to, stage by stage, each on the files that the one before it left.
use Rattle.std.specs.Prelude.{◌≡◌, ℕ, suc, ◌^◌, ◌<◌, ◌≤◌, List, [], ◌∷◌, codes, Bool, true, false, Option, None, Some, Result, Ok, Err}
use Rattle.std.specs.FinMap.{get}
use Rattle.outside.specs.Files.{Files}
use Rattle.outside.specs.TreeView.{TreeView}
use Rattle.outside.specs.Calls.{IsUntouched}
use Rattle.outside.specs.Quiet.{Effect, after, after_all}
use Rattle.patch_set.specs.SetView.{SetView, plain_patches}
use Rattle.patch_run.specs.Applied.{Receipt}
use Rattle.patch_run.specs.Doing.{QuietAfter}
use Rattle.patch_run.specs.Run.{set_run}
use Rattle.apply_task.specs.declared.fault.RunFault.{RunFault}
use Rattle.apply_task.specs.declared.fault.RunFault.TheVariants as runs
use Rattle.patch_run.specs.Finishes.{CanApply}
use Rattle.series_stack.specs.Saves.{Entry}
use Rattle.series_stack.specs.Undoing.{entries_at}
use Rattle.series_stack.specs.Taking.{AreSaved, too_long}
use Rattle.series_stack.specs.Stack.{patch_name, save_name, undoing_by}
use Rattle.series_stack.specs.Commands.{Ending, Application, IsPatch, names_of, own_line}
use Rattle.series_stack.specs.Commands.{Ending as endings}
use Rattle.series_stack.specs.Outcomes.{ending_text, raising, said, saving}
use Rattle.stack_patch.specs.Reading.{push_options, targets_for, application_of, patch_of_set, read_patch}
use Rattle.cli_tool_words.specs.declared.jobs.StackOp.TheVariants.{Push}
use Rattle.cli_run_answers.specs.declared.why.Why.{Why}
use Rattle.cli_run_answers.specs.declared.why.Why.TheVariants.{Done, Rejected, FileTooLong}
use Rattle.cli_run_answers.specs.Answers.{of_run}
use Rattle.cli_run_answers.specs.Worlds.{World}
use Rattle.cli_run_answers.specs.Outcomes.{Outcome}
use Rattle.stack_state.specs.Undoing.{undone_by}
use Rattle.cli_stack.specs.Command.{behind, stop_in, stop_why}
use Rattle.cli_stack.specs.Comes.{Comes}

abbrev pub ended : Why → List Effect → List ℕ → Outcome
ended why es t = record { why = why; text = t; effects = es }

-- the patch's name, how many patches are applied, and how many there are
pub record Stage : Type 0 where
  pub name : List ℕ
  pub applied : ℕ
  pub all : ℕ

-- behind the patch, which these effects would undo
abbrev pub closed : Ending → Why → Stage → List Effect → Outcome
closed endings.Done stop s undoing = ended Done (raising s.applied ∷ []) (ending_text endings.Done s.name s.applied s.all)
closed endings.Rejected stop s undoing = ended Rejected undoing (ending_text endings.Rejected s.name s.applied s.all)
closed endings.CutOff stop s undoing = ended stop undoing []

-- behind the patch, which its save would undo
abbrev pub closed_over : Ending → Why → Stage → Option (List Entry) → Files → Outcome
closed_over ending stop s entries f = closed ending stop s (undone_by (save_name (suc s.applied)) entries f)

-- on the files with the save
abbrev pub applied_by : Application → Why → Stage → Option (List Entry) → Files → Outcome
applied_by a stop s entries f = behind a.effects a.text (closed a.ending stop s (undoing_by (save_name (suc s.applied)) entries (after_all a.effects f)))

abbrev pub on_saved : SetView → Stage → Option (List Entry) → Files → Outcome
on_saved v s entries f = applied_by (application_of (set_run push_options v f)) (stop_why (set_run push_options v f).stop) s entries f

-- on the files that are recovered
abbrev pub saved_by : SetView → Stage → List Entry → Option ℕ → Files → Outcome
saved_by v s es (Some size) f = ended (FileTooLong size) [] []
saved_by v s es None f = behind (saving s.applied es ∷ []) [] (on_saved v s (Some es) (after (saving s.applied es) f))

abbrev pub on_said : SetView → Stage → Files → Outcome
on_said v s f = saved_by v s (entries_at f (names_of (targets_for push_options (plain_patches v)))) (too_long (entries_at f (names_of (targets_for push_options (plain_patches v))))) f

abbrev pub on_recovered : SetView → Stage → Files → Outcome
on_recovered v s f = behind [] (said (codes "Applying patch ") s.name) (on_said v s f)

-- ---- what the stages go by

-- the set can be applied, changes what its names stand for alone, and these can be saved
pub record CanPush (v : SetView) : Type 0 where
  pub can : CanApply push_options v
  pub patch : IsPatch (patch_of_set v)
  pub saved : AreSaved (names_of (targets_for push_options (plain_patches v)))

-- and it is the patch with this name
pub record IsNext (u : TreeView) (name : List ℕ) (v : SetView) (saved : List (List ℕ)) : Type 0 where
  pub can : CanPush v
  pub names : saved ≡ names_of (targets_for push_options (plain_patches v))
  pub own : own_line (targets_for push_options (plain_patches v)) ≡ None
  pub patch : (f : Files) → u.told ≡ Some f → read_patch (get f (patch_name name)) ≡ Some (patch_of_set v)
  pub stop : (f g : Files) → u.told ≡ Some f → stop_in (get f (patch_name name)) g ≡ (set_run push_options v g).stop

-- ---- behind a run over the set

-- what a file says that isn't taken
abbrev pub HasCut : Result Receipt RunFault → Type 0
HasCut (Ok receipt) = Unit {0}
HasCut (Err runs.Tree) = Unit {0}
HasCut (Err runs.Write) = Unit {0}
HasCut (Err runs.Scratch) = Unit {0}
HasCut (Err (runs.LongLine line length)) = 65532 < length
HasCut (Err (runs.FileTooLong length)) = 2 ^ 32 ≤ length
HasCut (Err (runs.Disagree want got)) = Unit {0}
HasCut (Err runs.Memory) = Unit {0}

-- it is such a file
abbrev pub IsCut : RunFault → Type 0
IsCut runs.Tree = ⊥
IsCut runs.Write = ⊥
IsCut runs.Scratch = ⊥
IsCut (runs.LongLine line length) = 65532 < length
IsCut (runs.FileTooLong length) = 2 ^ 32 ≤ length
IsCut (runs.Disagree want got) = ⊥
IsCut runs.Memory = ⊥

-- the answer of steps that end so, or by a fault
abbrev pub why_by : Why → Result (Unit {0}) RunFault → Why
why_by why (Ok done) = why
why_by why (Err fault) = of_run fault

-- a file that isn't taken leaves the tree quiet
abbrev pub QuietBy : RunFault → TreeView → Type 0
QuietBy e w = QuietAfter {R = Receipt} (Err e) w

abbrev pub ending_if : Bool → Ending
ending_if true = endings.Rejected
ending_if false = endings.Done

-- nothing more is done
pub record IsStill (e : RunFault) (u w : World) (why : Why) : Type 0 where
  pub is : why ≡ of_run e
  pub tree : IsUntouched u.tree w.tree
  pub out : w.out ≡ u.out

-- the run was cut off by a file that isn't taken
abbrev pub is_cut : RunFault → Bool
is_cut runs.Tree = false
is_cut runs.Write = false
is_cut runs.Scratch = false
is_cut (runs.LongLine line length) = true
is_cut (runs.FileTooLong length) = true
is_cut (runs.Disagree want got) = false
is_cut runs.Memory = false

abbrev pub ClosesBy : Bool → RunFault → World → World → Why → Stage → Option (List Entry) → Type 0
ClosesBy true e u w why s entries = Comes Push u w why (λ f. closed endings.CutOff (of_run e) s (undone_by (save_name (suc s.applied)) entries f))
ClosesBy false e u w why s entries = IsStill e u w why

-- behind an end the count is put or the patch is undone, and behind a file that isn't taken it is undone too; else nothing is done
abbrev pub Closes : Result Receipt RunFault → World → World → Why → Stage → Option (List Entry) → Type 0
Closes (Ok receipt) u w why s entries = Comes Push u w why (λ f. closed (ending_if receipt.is_bad) Done s (undone_by (save_name (suc s.applied)) entries f))
Closes (Err e) u w why s entries = ClosesBy (is_cut e) e u w why s entries
