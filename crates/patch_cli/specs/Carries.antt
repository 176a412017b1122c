-- What a run promises: that it is the command's, and what stands at each moment.
use Rattle.std.specs.Prelude.{◌≡◌, ◌⊎◌, ℕ, List, [], true, false, Option, Some, Result, Ok}
use Rattle.outside.specs.Faults.{HasRisen}
use Rattle.outside.specs.Files.{Files}
use Rattle.outside.specs.TreeView.{Passes, MayLeave, LeftSince}
use Rattle.outside.specs.SinkView.{SinkView, SinkPasses, Receives, ReceivesPart}
use Rattle.outside.specs.SourceView.{SourcePasses}
use Rattle.outside.specs.ScratchView.{ScratchPasses}
use Rattle.outside.specs.Quiet.{IsQuiet}
use Rattle.read_file_patch.specs.PlainPatch.{PlainPatch}
use Rattle.patch_options.specs.PlainJob.{PlainOptions, PlainJob}
use Rattle.patch_options.specs.Words.{job_of}
use Rattle.patch_options.specs.declared.options.WordFault.{WordFault}
use Rattle.cli_run_answers.specs.Input.{TakesAtMost, input_bytes, answer_of}
use Rattle.patch_run.specs.Applied.{Receipt}
use Rattle.patch_run.specs.Doing.{IsCutAt}
use Rattle.apply_task.specs.Making.{IsTidy}
use Rattle.apply_task.specs.declared.fault.RunFault.{RunFault}
use Rattle.cli_run_answers.specs.declared.why.Why.{Why}
use Rattle.cli_run_answers.specs.declared.why.Why.TheVariants.{Memory}
use Rattle.cli_run_answers.specs.Answers.{of_run, is_fault}
use Rattle.cli_run_answers.specs.Moments.{FirstPart, IsAsAtEntry, LeavesAllowed, Opens}
use Rattle.patch_cli.specs.Answers.{Sort, sort_of}
use Rattle.patch_cli.specs.Answers.Sort.{ended, halted, refusal, unread, broken, starved}
use Rattle.patch_run.specs.Scratches.{scratch_behind_all}
use Rattle.patch_run.specs.Outcome.{Outcome, refused}
use Rattle.patch_cli.specs.Numbered.{asked_output, asked_items}
use Rattle.patch_run.specs.Answer.{HasReceipt, IsAnswer}
use Rattle.patch_cli.specs.Returns.{strips_returns, stripping_line, says_stripping, first_said}
use Rattle.patch_cli.specs.Command.{Reads, on_job, command}
use Rattle.patch_cli.specs.Worlds.{World, TellsFiles, TellsLeft, TellsInput, AsksFor, reads_source, pages_all}
use Rattle.patch_cli.specs.Causes.{HasCause}

-- a first part of the effects and of the text after a fault or where memory ran out, else all
abbrev pub Answers : Sort → Why → Option Receipt → Files → World → World → Outcome → Type 0
Answers ended why applied f u w o = IsAnswer why applied f w.tree u.out w.out o
Answers halted why applied f u w o = IsAnswer why applied f w.tree u.out w.out o
Answers refusal why applied f u w o = IsAnswer why applied f w.tree u.out w.out o
Answers unread why applied f u w o = FirstPart u.tree w.tree u.out w.out o.effects o.text
Answers broken why applied f u w o = FirstPart u.tree w.tree u.out w.out o.effects o.text
Answers starved why applied f u w o = FirstPart u.tree w.tree u.out w.out o.effects o.text

-- the patch text that the words name was read, and isn't refused
abbrev pub HasRead : Result PlainJob WordFault → Files → List ℕ → Type 0
HasRead job f left = AsksFor job (λ o. (text : List ℕ) × (ps : List PlainPatch) × Reads o f left text ps)

-- refusals, and faults of standard input, come before the first change
abbrev pub Untouched : Sort → World → World → Type 0
Untouched ended u w = Unit {0}
Untouched halted u w = Unit {0}
Untouched refusal u w = IsAsAtEntry u.tree w.tree u.scratch w.scratch u.out w.out
Untouched unread u w = IsAsAtEntry u.tree w.tree u.scratch w.scratch u.out w.out
Untouched broken u w = Unit {0}
Untouched starved u w = Unit {0}

-- after an end each crash from then on leaves all effects
abbrev pub QuietAfter : Sort → World → Type 0
QuietAfter ended w = IsQuiet w.tree
QuietAfter halted w = IsQuiet w.tree
QuietAfter refusal w = Unit {0}
QuietAfter unread w = Unit {0}
QuietAfter broken w = Unit {0}
QuietAfter starved w = Unit {0}

-- the patch text was read
abbrev pub IsBehindReading : Sort → Type 0
IsBehindReading ended = Unit {0}
IsBehindReading halted = Unit {0}
IsBehindReading refusal = ⊥
IsBehindReading unread = ⊥
IsBehindReading broken = ⊥
IsBehindReading starved = ⊥

-- every file patch had its turn
abbrev pub IsEnd : Sort → Type 0
IsEnd ended = Unit {0}
IsEnd halted = ⊥
IsEnd refusal = ⊥
IsEnd unread = ⊥
IsEnd broken = ⊥
IsEnd starved = ⊥

-- where it is told what the patch text is read from: a refusal is the command's, and nothing changes before a text that isn't refused
-- is read whole
abbrev pub Heeds : Sort → Why → Result PlainJob WordFault → World → World → Files → List ℕ → Type 0
Heeds ended why job u w f left = HasRead job f left
Heeds halted why job u w f left = HasRead job f left
Heeds refusal why job u w f left = on_job job f left ≡ refused why f
Heeds unread why job u w f left = Unit {0}
Heeds broken why job u w f left = IsAsAtEntry u.tree w.tree u.scratch w.scratch u.out w.out ⊎ HasRead job f left
Heeds starved why job u w f left = IsAsAtEntry u.tree w.tree u.scratch w.scratch u.out w.out ⊎ HasRead job f left

-- nothing was done, but a first part of the line that is said first may be written
pub record HasBegun (u w : World) : Type 0 where
  pub told : w.tree.told ≡ u.tree.told
  pub scratch : w.scratch ≡ u.scratch
  pub images : (c : Files) → LeftSince w.tree u.tree.moment c → MayLeave u.tree c
  pub said : ReceivesPart u.out w.out stripping_line

-- and the text that was read has that line
pub record HasSaidFirst (u w : World) (f : Files) (left : List ℕ) (o : PlainOptions) : Type 0 where
  pub begun : HasBegun u w
  pub bytes : List ℕ
  pub given : answer_of (input_bytes o.input o.dir f left) ≡ Ok bytes
  pub says : says_stripping o (strips_returns o bytes) ≡ true

-- the run over the file patches of the patch text was cut off at one of them, what is said first and those in front of it having come to their ends; of that one
-- nothing is done before all that it says is in the output
pub record IsCut (why : Why) (u w : World) (f : Files) (left : List ℕ) (o : PlainOptions) : Type 0 where
  pub text : List ℕ
  pub patches : List PlainPatch
  pub read : Reads o f left text patches
  pub fault : RunFault
  pub is : why ≡ of_run fault
  -- the output behind what is said first
  pub middle : SinkView
  pub first : Receives u.out middle (first_said o (strips_returns o read.bytes))
  pub cut : IsCutAt fault w.tree middle w.out o (asked_output o f patches) (asked_items o f text patches) f

-- after a fault, or where memory ran out
abbrev pub BreaksOff : Sort → Why → Result PlainJob WordFault → World → World → Files → List ℕ → Type 0
BreaksOff ended why job u w f left = Unit {0}
BreaksOff halted why job u w f left = Unit {0}
BreaksOff refusal why job u w f left = Unit {0}
BreaksOff unread why job u w f left = Unit {0}
BreaksOff broken why job u w f left = IsAsAtEntry u.tree w.tree u.scratch w.scratch u.out w.out ⊎ (AsksFor job (HasSaidFirst u w f left) ⊎ AsksFor job (IsCut why u w f left))
BreaksOff starved why job u w f left = IsAsAtEntry u.tree w.tree u.scratch w.scratch u.out w.out ⊎ (AsksFor job (HasSaidFirst u w f left) ⊎ AsksFor job (IsCut why u w f left))

-- all that is promised of a run of these words from one state of its devices to another
pub record Carries (words : List (List ℕ)) (u w : World) (why : Why) (applied : Option Receipt) : Type 0 where
  pub tree : Passes u.tree w.tree
  pub scratch : ScratchPasses u.scratch w.scratch
  pub source : SourcePasses u.source w.source
  pub sink : SinkPasses u.out w.out
  pub cause : HasCause why (job_of words) u w
  pub untouched : Untouched (sort_of why) u w
  pub quiet : QuietAfter (sort_of why) w
  pub receipt : HasReceipt why applied
  -- a plan that keeps every file in the scratch wants no memory once there can be a change
  pub starved : why ≡ Memory → pages_all (job_of words) ≡ true → IsAsAtEntry u.tree w.tree u.scratch w.scratch u.out w.out ⊎ (AsksFor (job_of words) (λ o. o.silent ≡ false) × HasBegun u w)
  -- standard input is read to its end, or not at all
  pub read : IsBehindReading (sort_of why) → reads_source (job_of words) ≡ true → (left : List ℕ) → u.source.told ≡ Some left → w.source.told ≡ Some []
  pub unread : reads_source (job_of words) ≡ false → w.source ≡ u.source
  -- one that never ends is left behind the longest text and one byte
  pub taken : TakesAtMost 268435457 u.source w.source
  pub answers : (f : Files) (left : List ℕ) → TellsFiles (job_of words) u f → TellsLeft (job_of words) u left → Answers (sort_of why) why applied f u w (command words f left)
  pub images : (f : Files) (left : List ℕ) → TellsFiles (job_of words) u f → TellsLeft (job_of words) u left → LeavesAllowed u.tree w.tree f (command words f left).effects
  pub heeds : (f : Files) (left : List ℕ) → TellsInput (job_of words) u f left → Heeds (sort_of why) why (job_of words) u w f left
  pub cut : (f : Files) (left : List ℕ) → TellsFiles (job_of words) u f → TellsLeft (job_of words) u left → BreaksOff (sort_of why) why (job_of words) u w f left
  -- unless a device failed, no temporary is left that the run started, whatever is told; where it is told, `answers` and `cut` say what each temporary name stands for
  pub tidy : is_fault why ≡ false → IsTidy u.tree w.tree
  -- a dry run leaves the tree as it is told, whatever is told, and starts no temporary
  pub dry : AsksFor (job_of words) (λ o. o.dry_run ≡ true) → Opens u.tree w.tree
  -- the scratch holds the pages of the last file that was kept there, or what it held
  pub pages : IsEnd (sort_of why) → (f : Files) (left before : List ℕ) → TellsFiles (job_of words) u f → TellsLeft (job_of words) u left → u.scratch.told ≡ Some before
      → AsksFor (job_of words) (λ o. w.scratch.told ≡ Some (scratch_behind_all o (command words f left).taken before))

-- no count of faults rose, nor stands at its greatest value
pub record NoneFailed (u w : World) : Type 0 where
  pub tree : HasRisen u.tree.faults w.tree.faults → ⊥
  pub scratch : HasRisen u.scratch.faults w.scratch.faults → ⊥
  pub source : HasRisen u.source.faults w.source.faults → ⊥
  pub out : HasRisen u.out.faults w.out.faults → ⊥

-- the answer is the command's, with its text and its files, or memory ran out
abbrev pub IsComplete : Why → Option Receipt → Files → World → World → Outcome → Type 0
IsComplete why applied f u w o = IsAnswer why applied f w.tree u.out w.out o ⊎ (why ≡ Memory)
