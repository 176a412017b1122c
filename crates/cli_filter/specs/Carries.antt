-- What a run of a filter promises: that it is the command's, and what stands at each moment.
use Rattle.std.specs.Prelude.{◌≡◌, ◌≢◌, ◌⊎◌, ℕ, ◌+◌, ◌≤◌, List, [], length, take, Bool, true, false, Some, Result, Ok, Err}
use Rattle.outside.specs.Faults.{HasRisen}
use Rattle.outside.specs.Files.{Files, SameLasting}
use Rattle.outside.specs.TreeView.{TreeView, Passes, MayLeave, LeftSince}
use Rattle.outside.specs.FinderView.{FinderPasses}
use Rattle.outside.specs.SinkView.{SinkView, SinkPasses, Receives, ReceivesPart}
use Rattle.outside.specs.SourceView.{SourcePasses}
use Rattle.outside.specs.Quiet.{IsQuiet, after_all}
use Rattle.patch_options.specs.declared.options.WordFault.{WordFault}
use Rattle.cli_tool_words.specs.PlainJobs.{PlainToolJob}
use Rattle.cli_tool_words.specs.PlainJobs.PlainToolJob.{list_job, filter_job, grep_job, split_job, recount_job, gen_job, flip_job, stack_job}
use Rattle.cli_run_answers.specs.Input.{TakesAtMost}
use Rattle.apply_task.specs.Making.{IsTidy}
use Rattle.filter_whole_text.specs.Parting.{Part, ReceivesFirst, part_lines, part_puts}
use Rattle.filter_whole_text.specs.Splits.{split_outcome}
use Rattle.cli_run_answers.specs.declared.why.Why.{Why}
use Rattle.cli_run_answers.specs.declared.why.Why.TheVariants.{Done, TreeFault, Memory}
use Rattle.cli_run_answers.specs.Answers.{is_fault, is_own, is_early}
use Rattle.cli_run_answers.specs.Moments.{Opens, FirstPart, LeavesAllowed, LeavesOldOrNew}
use Rattle.cli_run_answers.specs.Outcomes.{Outcome}
use Rattle.cli_filter.specs.Jobs.{AsksFor, Puts, ReadsSource}
use Rattle.cli_filter.specs.Command.{IsOutcome, command}
use Rattle.cli_filter.specs.Worlds.{World, Tells}
use Rattle.cli_filter.specs.Causes.{HasCause}

-- the answer of an outcome: its text, and the files after its effects where they are told
pub record IsAnswer (why : Why) (f : Files) (u w : World) (o : Outcome) : Type 0 where
  pub is : why ≡ o.why
  pub text : Receives u.out w.out o.text
  pub files : u.tree.told ≡ Some f → w.tree.told ≡ Some (after_all o.effects f)

-- a first part after a fault or where memory ran out, else all
abbrev pub Answers : Bool → Why → Files → World → World → Outcome → Type 0
Answers true why f u w o = IsAnswer why f u w o
Answers false why f u w o = FirstPart u.tree w.tree u.out w.out o.effects o.text

-- the tree is told as at entry, nothing was written, and a crash leaves what one could have left at entry
pub record IsAsAtEntry (u w : World) : Type 0 where
  pub told : w.tree.told ≡ u.tree.told
  pub out : w.out ≡ u.out
  pub images : (c : Files) → LeftSince w.tree u.tree.moment c → MayLeave u.tree c

-- the first k of these parts are put, and no name is written but theirs; of these the last alone may be left out or cut off
pub record IsCutAt (why : Why) (parts : List Part) (f : Files) (w : TreeView) (c d : SinkView) (k : ℕ) : Type 0 where
  pub few : k ≤ length parts
  pub files : (g : Files) → w.told ≡ Some g → SameLasting (after_all (part_puts (take k parts)) f) g
  pub exact : why ≢ TreeFault → w.told ≡ Some (after_all (part_puts (take k parts)) f)
  pub out : ReceivesPart c d (part_lines (take k parts))
  pub said : ℕ
  pub near : k ≤ said + 1
  pub names : ReceivesFirst c d (part_lines (take said parts))

-- where parts are put, a fault comes before the first of them or behind some
abbrev pub BreaksOff : Result PlainToolJob WordFault → Why → Files → World → World → Type 0
BreaksOff (Ok (list_job j)) why f u w = Unit {0}
BreaksOff (Ok (filter_job j)) why f u w = Unit {0}
BreaksOff (Ok (grep_job j)) why f u w = Unit {0}
BreaksOff (Ok (split_job j)) why f u w = IsAsAtEntry u w ⊎ ((parts : List Part) × (split_outcome j f ≡ Ok parts) × ((k : ℕ) × IsCutAt why parts f w.tree u.out w.out k))
BreaksOff (Ok (recount_job input)) why f u w = Unit {0}
BreaksOff (Ok (gen_job j)) why f u w = Unit {0}
BreaksOff (Ok (flip_job input)) why f u w = Unit {0}
BreaksOff (Ok (stack_job op)) why f u w = Unit {0}
BreaksOff (Err fault) why f u w = Unit {0}

-- no count of faults rose, nor stands at its greatest value
pub record NoneFailed (u w : World) : Type 0 where
  pub tree : HasRisen u.tree.faults w.tree.faults → ⊥
  pub source : HasRisen u.source.faults w.source.faults → ⊥
  pub out : HasRisen u.out.faults w.out.faults → ⊥

-- an outcome that the words may have, and what holds of it
abbrev pub ByOutcome : Result PlainToolJob WordFault → World → Files → List ℕ → (Outcome → Type 0) → Type 0
ByOutcome job u f left P = (o : Outcome) × IsOutcome u.finder job f left o × P o

-- all that is promised of a run of the words that ask for this, from one state of its devices to another
pub record Carries (job : Result PlainToolJob WordFault) (u w : World) (why : Why) : Type 0 where
  pub tree : Passes u.tree w.tree
  pub finder : FinderPasses u.finder w.finder
  pub source : SourcePasses u.source w.source
  pub sink : SinkPasses u.out w.out
  pub cause : HasCause why job u w
  pub untouched : is_early why ≡ true → IsAsAtEntry u w
  -- a job that puts no parts leaves the tree as it is told, whatever else is told
  pub still : (AsksFor job Puts → ⊥) → Opens u.tree w.tree
  -- after an end each crash from then on leaves all effects
  pub quiet : why ≡ Done → IsQuiet w.tree
  -- standard input is read to its end, or not at all
  pub read : why ≡ Done → ReadsSource job → (left : List ℕ) → u.source.told ≡ Some left → w.source.told ≡ Some []
  pub unread : (ReadsSource job → ⊥) → w.source ≡ u.source
  -- one that never ends is left behind the longest text and one byte
  pub taken : TakesAtMost 268435457 u.source w.source
  pub answers : (f : Files) (left : List ℕ) → Tells job u f left → ByOutcome job u f left (Answers (is_own why) why f u w)
  pub images : (f : Files) (left : List ℕ) → Tells job u f left → LeavesAllowed u.tree w.tree f (command u.finder.hit job f left).effects
  -- wherever the run is stopped, each file holds its old bytes or its completed new ones
  pub names : (f : Files) (left : List ℕ) → Tells job u f left → LeavesOldOrNew u.tree w.tree f (command u.finder.hit job f left).effects
  pub cut : is_own why ≡ false → (f : Files) (left : List ℕ) → Tells job u f left → BreaksOff job why f u w
  -- unless a device failed, no temporary is left that the run started
  pub tidy : is_fault why ≡ false → IsTidy u.tree w.tree
  -- where all is told and no device failed, only want of memory stands between the command and its answer
  pub complete : (f : Files) (left : List ℕ) → Tells job u f left → NoneFailed u w → ByOutcome job u f left (IsAnswer why f u w) ⊎ (why ≡ Memory)
