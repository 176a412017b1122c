-- How far the start of a file patch has come.
use Rattle.std.specs.Prelude.{◌≡◌, ◌≢◌, ◌<◌, ℕ, List, Bool, true, false, is_some, Option, None, Some, Result, OnOk, OnErr, IfOk, IfErr}
use Rattle.outside.specs.Files.{Files}
use Rattle.outside.specs.TreeView.{TreeView}
use Rattle.outside.specs.SinkView.{SinkView, SinkPasses, Receives, ReceivesPart}
use Rattle.outside.specs.SinkView as sink
use Rattle.outside.specs.Calls.{IsUntouched}
use Rattle.name_choice.specs.declared.Choice.{Choice}
use Rattle.name_choice.specs.declared.Choice.TheVariants.{Existing, Create, Nothing}
use Rattle.line_store.specs.Store.{Seen, Keeps}
use Rattle.line_store.specs.Store as store
use Rattle.line_store.specs.Taking.{KeepsPlan}
use Rattle.line_store.specs.declared.fault.OpenFault.{OpenFault}
use Rattle.line_store.specs.declared.fault.OpenFault.TheVariants as open_fault
use Rattle.apply_task.specs.declared.fault.RunFault.{RunFault}
use Rattle.apply_task.specs.declared.fault.RunFault.TheVariants.{Tree, Write, Scratch, LongLine, FileTooLong, Disagree, Memory}
use Rattle.apply_start.specs.declared.starting.Decision.{Decision}
use Rattle.apply_start.specs.declared.starting.Decision.TheVariants.{Skip, Refuse, Try}
use Rattle.apply_task.specs.Faults.{of_open}
use Rattle.apply_start.specs.Start.{Start, skips, refuses, tries, lines_in, refusal_of}
use Rattle.apply_start.specs.Devices.{Told, HasRunCause, scratch_with}

abbrev pub said_in : Start → List ℕ
said_in (skips said row taken) = said
said_in (refuses said fault) = said
said_in (tries said place side) = said

-- the file that the plan took; one whose hunks are tried is the chosen one, if it is there
abbrev pub taken_in : (ℕ → Option (List ℕ)) → Start → Option (List ℕ)
taken_in bytes (skips said row taken) = taken
taken_in bytes (refuses said fault) = None
taken_in bytes (tries said place side) = bytes place

-- the decision is that of the start, of which none refuses for what is in the way; where hunks are tried, the plan stands for the lines of the chosen file
abbrev pub IsDecided : Decision → Seen → (ℕ → Option (List ℕ)) → Start → Type 0
IsDecided d b bytes (skips said row taken) = d ≡ Skip row
IsDecided d b bytes (refuses said fault) = ⊥
IsDecided d b bytes (tries said place side) = (d ≡ Try place side) × (b.told ≡ Some (lines_in (bytes place)))

-- a file patch is refused only over a tree that tells no files
abbrev pub IsFree : TreeView → Decision → Type 0
IsFree u (Skip row) = Unit {0}
IsFree u (Refuse place side) = (f : Files) → u.told ≡ Some f → ⊥
IsFree u (Try place side) = Unit {0}

-- it isn't refused
abbrev pub IsUnbarred : Decision → Type 0
IsUnbarred (Skip row) = Unit {0}
IsUnbarred (Refuse place side) = ⊥
IsUnbarred (Try place side) = Unit {0}

-- the file isn't taken, and all that is said of it was said; or a first part was said
abbrev pub IsBrokenOff : RunFault → SinkView → SinkView → Start → Type 0
IsBrokenOff Tree c d s = ReceivesPart c d (said_in s)
IsBrokenOff Write c d s = ReceivesPart c d (said_in s)
IsBrokenOff Scratch c d s = ReceivesPart c d (said_in s)
IsBrokenOff (LongLine line length) c d s = Receives c d (said_in s) × (s ≡ refuses (said_in s) (open_fault.LongLine line length))
IsBrokenOff (FileTooLong length) c d s = Receives c d (said_in s) × (s ≡ refuses (said_in s) (open_fault.FileTooLong length))
IsBrokenOff (Disagree want got) c d s = ReceivesPart c d (said_in s)
IsBrokenOff Memory c d s = ReceivesPart c d (said_in s)

-- the start of a file patch: the tree is left as it is, and what is said and decided is that of the definition
pub record Starts (u w : TreeView) (a b : Seen) (c d : SinkView) (scratch_after : ℕ → List ℕ → Option (List ℕ) → Option (List ℕ)) (result : Result Decision RunFault) (bytes : Files → ℕ → Option (List ℕ)) (start : Files → Start) : Type 0 where
  pub untouched : IsUntouched u w
  pub plan : KeepsPlan a b
  pub sink : SinkPasses c d
  pub cause : IfErr result (λ e. HasRunCause e u w a b c d)
  pub said : OnOk result ((f : Files) → Told u a f → Receives c d (said_in (start f)))
  pub decided : IfOk result (λ decision. (f : Files) → Told u a f → IsDecided decision b (bytes f) (start f))
  pub free : IfOk result (IsFree u)
  pub scratch : OnOk result ((f : Files) → Told u a f → b.scratch ≡ scratch_with scratch_after a.size (taken_in (bytes f) (start f)) a.scratch)
  pub broken : IfErr result (λ e. (f : Files) → Told u a f → IsBrokenOff e c d (start f))

-- what a fault says of the plan and the sink, where the tree isn't asked
abbrev pub HasPlanCause : RunFault → Seen → Seen → SinkView → SinkView → Type 0
HasPlanCause Tree a b c d = ⊥
HasPlanCause Write a b c d = sink.Rises c d
HasPlanCause Scratch a b c d = store.Rises a b
HasPlanCause (LongLine line length) a b c d = ⊥
HasPlanCause (FileTooLong length) a b c d = ⊥
HasPlanCause (Disagree want got) a b c d = (want ≢ got) × (a.told ≡ None)
HasPlanCause Memory a b c d = ⊥

-- the plan stands for the lines of a file that is there, or for none
abbrev pub Holds : Seen → Bool → Option (List ℕ) → Type 0
Holds a there bytes = (a.told ≡ Some (lines_in bytes)) × (there ≡ is_some bytes)

-- the rest of a start, once the file was taken: the plan's lines are all that it looks at
pub record Weighs (a b : Seen) (c d : SinkView) (there : Bool) (result : Result Decision RunFault) (start : Option (List ℕ) → Start) : Type 0 where
  pub plan : Keeps a b
  pub sink : SinkPasses c d
  pub cause : IfErr result (λ e. HasPlanCause e a b c d)
  pub said : OnOk result ((bytes : Option (List ℕ)) → Holds a there bytes → Receives c d (said_in (start bytes)))
  pub decided : IfOk result (λ decision. (bytes : Option (List ℕ)) → Holds a there bytes → IsDecided decision b (λ place. bytes) (start bytes))
  pub unbarred : IfOk result IsUnbarred
  pub broken : OnErr result ((bytes : Option (List ℕ)) → Holds a there bytes → ReceivesPart c d (said_in (start bytes)))

-- a file that is too long, or has a line that is, is refused as such
abbrev pub IsRefusal : OpenFault → Option OpenFault → Type 0
IsRefusal open_fault.Tree refused = Unit {0}
IsRefusal open_fault.Scratch refused = Unit {0}
IsRefusal (open_fault.LongLine line length) refused = refused ≡ Some (open_fault.LongLine line length)
IsRefusal (open_fault.FileTooLong length) refused = refused ≡ Some (open_fault.FileTooLong length)
IsRefusal (open_fault.Disagree want got) refused = Unit {0}
IsRefusal open_fault.Memory refused = Unit {0}

-- the file of a choice is there, or isn't
abbrev pub IsPresent : (ℕ → Option (List ℕ)) → Choice → Type 0
IsPresent bytes (Existing k) = is_some (bytes k) ≡ true
IsPresent bytes (Create k) = is_some (bytes k) ≡ false
IsPresent bytes Nothing = Unit {0}

-- the place of a decision is that of one of so many targets
abbrev pub IsWithin : ℕ → Decision → Type 0
IsWithin count (Skip row) = Unit {0}
IsWithin count (Refuse place side) = place < count
IsWithin count (Try place side) = place < count

-- the file is taken, or the plan stands for no lines where it isn't there
pub record Takes (u w : TreeView) (a b : Seen) (scratch_after : ℕ → List ℕ → Option (List ℕ) → Option (List ℕ)) (result : Result (Unit {0}) OpenFault) (bytes : Files → Option (List ℕ)) : Type 0 where
  pub untouched : IsUntouched u w
  pub plan : KeepsPlan a b
  pub cause : IfErr result (λ e. (d : SinkView) → HasRunCause (of_open e) u w a b d d)
  pub admitted : OnOk result ((f : Files) → Told u a f → refusal_of a.size (bytes f) ≡ None)
  pub lines : OnOk result ((f : Files) → Told u a f → b.told ≡ Some (lines_in (bytes f)))
  pub scratch : OnOk result ((f : Files) → Told u a f → b.scratch ≡ scratch_with scratch_after a.size (bytes f) a.scratch)
  pub refused : IfErr result (λ e. (f : Files) → Told u a f → IsRefusal e (refusal_of a.size (bytes f)))
