-- The effects of a file patch, made whole or in part.
use Rattle.std.specs.Prelude.{◌≡◌, ◌≢◌, ◌⊎◌, ℕ, List, true, None, Some, Result, Ok, Err, IfErr, OnOk, OnErr}
use Rattle.std.specs.FinMap.{get}
use Rattle.outside.specs.Files.{Files, is_temp}
use Rattle.outside.specs.TreeView.{TreeView, Passes, Rises}
use Rattle.outside.specs.Quiet.{IsQuiet, Effect, HasMade, TellsPrefix, LeavesPrefix, after_all}
use Rattle.apply_task.specs.declared.fault.RunFault.{RunFault}
use Rattle.apply_task.specs.declared.fault.RunFault.TheVariants.{Tree, Write, Scratch, LongLine, FileTooLong, Disagree, Memory}

-- the effects are made whole, and reads give what they make of the files, but perhaps at a temporary that is still there
pub record IsMade (u w : TreeView) (temp : List ℕ) (es : List Effect) : Type 0 where
  pub made : HasMade u w es
  pub exact : (f g : Files) → u.told ≡ Some f → w.told ≡ Some g → (q : List ℕ) → q ≢ temp → get g q ≡ get (after_all es f) q

-- a first part of the effects
pub record IsPart (u w : TreeView) (es : List Effect) : Type 0 where
  pub tells : TellsPrefix u w es
  pub leaves : LeavesPrefix u w es

-- calls of the tree alone, over a quiet tree: all effects on `Ok`, a first part after a fault; the effects are those of the files at entry
pub record Makes {R : Type 0} (u w : TreeView) (result : Result R RunFault) (temp : List ℕ) (es : Files → List Effect) : Type 0 where
  pub ok : OnOk result ((f : Files) → u.told ≡ Some f → IsMade u w temp (es f))
  pub err : OnErr result ((f : Files) → u.told ≡ Some f → IsPart u w (es f))

-- what holds of them whatever is told
pub record GoesQuietly {R : Type 0} (u w : TreeView) (result : Result R RunFault) : Type 0 where
  pub passes : Passes u w
  pub cause : IfErr result (λ e. (e ≡ Tree) × Rises u w)
  pub quiet : OnOk result (IsQuiet w)

-- a name stands for what it stood for
abbrev pub KeepsAt : TreeView → TreeView → List ℕ → Type 0
KeepsAt u w name = (f g : Files) → u.told ≡ Some f → w.told ≡ Some g → get g name ≡ get f name

-- nothing has the name
abbrev pub IsGone : TreeView → List ℕ → Type 0
IsGone w name = (g : Files) → w.told ≡ Some g → get g name ≡ None

-- no temporary is left behind: each temporary name stands for nothing, or for what it stood for
abbrev pub IsTidy : TreeView → TreeView → Type 0
IsTidy u w = (f g : Files) → u.told ≡ Some f → w.told ≡ Some g → (q : List ℕ) → is_temp q ≡ true → (get g q ≡ None) ⊎ (get g q ≡ get f q)

-- it holds, unless a device has failed
abbrev pub UnlessFailed : RunFault → Type 0 → Type 0
UnlessFailed Tree P = Unit {0}
UnlessFailed Write P = Unit {0}
UnlessFailed Scratch P = Unit {0}
UnlessFailed (LongLine line length) P = P
UnlessFailed (FileTooLong length) P = P
UnlessFailed (Disagree want got) P = P
UnlessFailed Memory P = P

abbrev pub TidyAfter : {R : Type 0} → Result R RunFault → TreeView → TreeView → Type 0
TidyAfter (Ok x) u w = IsTidy u w
TidyAfter (Err e) u w = UnlessFailed e (IsTidy u w)
