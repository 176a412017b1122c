-- The run over the made patch with its summary, on the files that were put.
use Rattle.std.specs.Prelude.{◌≡◌, ◌≢◌, ◌⊎◌, ℕ, ◌-◌, ◌^◌, ◌<◌, ◌≤◌, List, length, Bool, true, false, Some, Result, Err, OnOk}
use Rattle.outside.specs.Faults.{HasRisen}
use Rattle.outside.specs.Files.{Files}
use Rattle.outside.specs.TreeView.{TreeView, Passes}
use Rattle.outside.specs.TreeView as tree
use Rattle.outside.specs.SinkView.{SinkView, SinkPasses, ReceivesPart}
use Rattle.outside.specs.SinkView as sink
use Rattle.outside.specs.ScratchView.{ScratchView, ScratchPasses}
use Rattle.outside.specs.Quiet.{IsQuiet, TellsPrefix, LeavesPrefix}
use Rattle.cli_tool_words.specs.PlainJobs.{PlainGenJob}
use Rattle.patch_set.specs.SetView.{SetView}
use Rattle.apply_task.specs.Making.{IsTidy}
use Rattle.apply_task.specs.declared.fault.RunFault.{RunFault}
use Rattle.patch_run.specs.Applied.{Receipt}
use Rattle.patch_run.specs.Run.{Run, items_of, set_run}
use Rattle.patch_run.specs.Doing.{IsCutAt, IsWholeOf}
use Rattle.cli_run_answers.specs.declared.why.Why.{Why}
use Rattle.cli_run_answers.specs.declared.why.Why.TheVariants.{Done, Rejected, Usage, Malformed, Garbage, EdReverse, OutMany, Reserved, NoPatchFile, TooLong, LongLine, FileTooLong, BadPattern, NoContext, Unfit, BadState, StackEnd, StackName, ReadFault, WriteFault, TreeFault, ScratchFault, Disagree, Memory}
use Rattle.cli_run_answers.specs.Answers.{is_fault, is_own, is_through, of_run}
use Rattle.patch_run.specs.Scratches.{is_paged, scratch_behind_all}
use Rattle.patch_run.specs.Outcome.{Outcome}
use Rattle.patch_run.specs.Answer.{HasReceipt, why_of, receipt_of}
use Rattle.patch_run.specs.Finishes.{IsNotBegun, IsToldTo}
use Rattle.cli_gen.specs.Jobs.{options_for}
use Rattle.cli_gen.specs.Command.{told_of}
use Rattle.cli_gen.specs.Carries.{IsCutTelling}

-- the run over the set
abbrev pub run_in : PlainGenJob → SetView → Files → Run
run_in j v f = set_run (options_for j) v f

-- and what it comes to with its summary
abbrev pub ending_in : PlainGenJob → SetView → Files → Outcome
ending_in j v f = told_of j (length v.patches) (run_in j v f)

-- what an answer says of the devices before and after
abbrev pub HasEndCause : Why → PlainGenJob → TreeView → TreeView → ScratchView → ScratchView → SinkView → SinkView → Type 0
HasEndCause Done j t w a b c d = Unit {0}
HasEndCause Rejected j t w a b c d = Unit {0}
HasEndCause (LongLine line length) j t w a b c d = j.buffer - 4 < length
HasEndCause (FileTooLong length) j t w a b c d = 2 ^ 40 ≤ length
HasEndCause WriteFault j t w a b c d = sink.Rises c d
HasEndCause TreeFault j t w a b c d = tree.Rises t w
HasEndCause ScratchFault j t w a b c d = HasRisen a.faults b.faults
HasEndCause (Disagree want got) j t w a b c d = (want ≢ got) × ((f : Files) → IsToldTo (options_for j) t a f → ⊥)
HasEndCause Memory j t w a b c d = Unit {0}
HasEndCause Usage j t w a b c d = ⊥
HasEndCause (Malformed line kind) j t w a b c d = ⊥
HasEndCause Garbage j t w a b c d = ⊥
HasEndCause (EdReverse line) j t w a b c d = ⊥
HasEndCause (OutMany count) j t w a b c d = ⊥
HasEndCause (Reserved line) j t w a b c d = ⊥
HasEndCause NoPatchFile j t w a b c d = ⊥
HasEndCause TooLong j t w a b c d = ⊥
HasEndCause BadPattern j t w a b c d = ⊥
HasEndCause (NoContext line) j t w a b c d = ⊥
HasEndCause (Unfit line) j t w a b c d = ⊥
HasEndCause (BadState file) j t w a b c d = ⊥
HasEndCause (StackEnd applied) j t w a b c d = ⊥
HasEndCause (StackName line) j t w a b c d = ⊥
HasEndCause ReadFault j t w a b c d = ⊥

-- the run's own answer: its effects are made whole, and its text and its summary are written
pub record IsRunAnswer (result : Result Receipt Why) (t w : TreeView) (c d : SinkView) (r : Run) (o : Outcome) : Type 0 where
  pub is : why_of result ≡ o.why
  pub applied : receipt_of result ≡ o.applied
  pub whole : IsWholeOf t w c d r.effects o.text r.files

-- first parts of them
pub record IsRunPart (t w : TreeView) (c d : SinkView) (r : Run) (o : Outcome) : Type 0 where
  pub tells : TellsPrefix t w r.effects
  pub said : ReceivesPart c d o.text

abbrev pub RunAnswers : Bool → Result Receipt Why → TreeView → TreeView → SinkView → SinkView → Run → Outcome → Type 0
RunAnswers true result t w c d r o = IsRunAnswer result t w c d r o
RunAnswers false result t w c d r o = IsRunPart t w c d r o

-- a fault cuts the run off at one file patch, or comes before the first; or the run came to its end, and its summary is cut off
abbrev pub EndsCut : Why → PlainGenJob → SetView → TreeView → TreeView → ScratchView → ScratchView → SinkView → SinkView → Files → Type 0
EndsCut why j v t w a b c d f = IsNotBegun t w a b c d
    ⊎ (((e : RunFault) × (why ≡ of_run e) × IsCutAt e w c d (options_for j) v.output (items_of v) f) ⊎ IsCutTelling why j (run_in j v f) w c d)

-- from a quiet tree on
pub record Ends (j : PlainGenJob) (v : SetView) (t w : TreeView) (a b : ScratchView) (c d : SinkView) (result : Result Receipt Why) : Type 0 where
  pub tree : Passes t w
  pub scratch : ScratchPasses a b
  pub sink : SinkPasses c d
  pub cause : HasEndCause (why_of result) j t w a b c d
  pub quiet : is_through (why_of result) ≡ true → IsQuiet w
  pub receipt : HasReceipt (why_of result) (receipt_of result)
  pub answers : (f : Files) → IsToldTo (options_for j) t a f → RunAnswers (is_own (why_of result)) result t w c d (run_in j v f) (ending_in j v f)
  pub moments : (f : Files) → IsToldTo (options_for j) t a f → LeavesPrefix t w (run_in j v f).effects
  -- a plan that keeps every file in the scratch wants memory before the run alone
  pub starved : result ≡ Err Memory → is_paged j.plan ≡ true → IsNotBegun t w a b c d
  pub cut : is_own (why_of result) ≡ false → (f : Files) → IsToldTo (options_for j) t a f → EndsCut (why_of result) j v t w a b c d f
  pub tidy : is_fault (why_of result) ≡ false → IsTidy t w
  pub pages : OnOk result ((f : Files) (before : List ℕ) → IsToldTo (options_for j) t a f → a.told ≡ Some before → b.told ≡ Some (scratch_behind_all (options_for j) (run_in j v f).taken before))
