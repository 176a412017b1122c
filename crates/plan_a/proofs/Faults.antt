-- The cause of a fault, over calls of a tree one after another.
use Rattle.std.proofs.Common.{ℕ, List, sym, ◌∙◌, ◌≡◌, Result, Ok, Err, subst}
use Rattle.std.specs.Prelude.{IfOk}
use Rattle.outside.specs.TreeView.{TreeView, Passes}
use Rattle.outside.specs.Calls.{IsUntouched}
use Rattle.outside.proofs.Views.{rises_then}
use Rattle.line_store.specs.declared.fault.OpenFault.{OpenFault}
use Rattle.line_store.specs.declared.fault.OpenFault.TheVariants.{Tree, Scratch, LongLine, FileTooLong, Disagree, Memory}
use Rattle.line_store.specs.Store.{Seen}
use Rattle.line_store.specs.Taking.{HasOpenCause}
use Rattle.plan_a.specs.Taken.{HasTextCause}

pub open-cause-more : (e : OpenFault) (before after : Seen) (t u v : TreeView) (name : List ℕ) → IsUntouched t u → Passes t u → HasOpenCause e before after u v name → HasOpenCause e before after t v name
open-cause-more Tree before after t u v name un p h = rises_then t u v p h
open-cause-more Scratch before after t u v name un p h = h
open-cause-more (LongLine line length) before after t u v name un p h = (h.0, λ f told. h.1 f (un.told ∙ told))
open-cause-more (FileTooLong length) before after t u v name un p h = (h.0, λ f told. h.1 f (un.told ∙ told))
open-cause-more (Disagree want got) before after t u v name un p h = (h.0, λ told. sym un.told ∙ h.1 told)
open-cause-more Memory before after t u v name un p h = h

-- a fault of a later call has its cause since the first
pub text-cause-more : (e : OpenFault) (size : ℕ) (t u v : TreeView) (name : List ℕ) → IsUntouched t u → Passes t u → HasTextCause e size u v name → HasTextCause e size t v name
text-cause-more e size t u v name un p h = λ before after s m. open-cause-more e before after t u v name un p (h before after s m)

-- what holds of bytes holds of those that a result gives
pub if-ok-same : {A E : Type 0} (r : Result A E) (f : A → List ℕ) (bytes : List ℕ) (P : List ℕ → Type 0) → IfOk r (λ a. f a ≡ bytes) → IfOk r (λ a. P bytes) → IfOk r (λ a. P (f a))
if-ok-same (Ok a) f bytes P e h = subst P (sym e) h
if-ok-same (Err x) f bytes P e h = tt

pub if-ok-all : {A E : Type 0} {P : Type 0} (r : Result A E) → P → IfOk r (λ a. P)
if-ok-all (Ok a) h = h
if-ok-all (Err x) h = tt
