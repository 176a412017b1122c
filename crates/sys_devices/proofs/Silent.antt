-- Calls of devices that tell nothing but their counts.
use Rattle.std.proofs.Common.{◌≡◌, ◌≤◌, ℕ, List, true, None, Some, Ok, Err, Result, IfOk, OnOk, OnErr, IsErr, refl, subst, arith}
use Rattle.std.proofs.lemmas.Option.{none-some}
use Rattle.outside.specs.Files.{Files}
use Rattle.outside.specs.Faults.{HasRisen}
use Rattle.outside.specs.TreeView.{Passes, IsCall}
use Rattle.outside.specs.Calls.{IsUntouched}
use Rattle.outside.specs.Quiet.{QuietStays, IsFixed}
use Rattle.outside.specs.ScratchView.{IsScratchCall}
use Rattle.outside.specs.Silent.{silent_tree, silent_scratch}

-- what holds anyway holds behind each answer
pub on_ok : {R E P : Type 0} (r : Result R E) → P → OnOk r P
on_ok (Ok x) p = p
on_ok (Err e) p = tt

pub on_err : {R E P : Type 0} (r : Result R E) → P → OnErr r P
on_err (Ok x) p = tt
on_err (Err e) p = p

-- a fact that asks for what is told
pub if_ok : {R E A : Type 0} (Q : R → A → Type 0) (r : Result R E) → IfOk r (λ x. (a : A) → None ≡ Some a → Q x a)
if_ok Q (Ok x) = λ a told. absurd (none-some a told)
if_ok Q (Err e) = tt

pub if_ok_then : {R E A : Type 0} (S : R → Type 0) (T : Type 0) (Q : R → A → Type 0) (r : Result R E) → IfOk r (λ x. S x → T → (a : A) → None ≡ Some a → Q x a)
if_ok_then S T Q (Ok x) = λ s t a told. absurd (none-some a told)
if_ok_then S T Q (Err e) = tt

-- what holds of the system's value holds of the answer's, which is the same
pub if_kept : {R E F : Type 0} (P : R → Type 0) (r : Result R E) (done : Result R F) → IfOk r (λ x. done ≡ Ok x) → IfOk done P → IfOk r P
if_kept P (Ok x) done is holds = subst (λ (d : Result _ _). IfOk d P) is holds
if_kept P (Err e) done is holds = tt

pub passes : (a b : ℕ) → a ≤ b → Passes (silent_tree a) (silent_tree b)
passes a b le = record { counts = le; telling = refl; later = omega arith; past = λ k c le left. left; kept = λ k c le left. left }

pub is_call : {R E : Type 0} (a b : ℕ) (r : Result R E) → a ≤ b → (IsErr r → HasRisen a b) → IsCall (silent_tree a) (silent_tree b) r
is_call a b r le cause = record { passes = passes a b le; next = omega arith; cause = cause }

pub untouched : (a b : ℕ) → a ≤ b → IsUntouched (silent_tree a) (silent_tree b)
untouched a b le = record {
  passes = passes a b le;
  told = refl;
  sealed = λ q. refl;
  now = λ c. (λ left. left, λ left. left);
  since = λ t c le. (λ left. left, λ left. left);
}

pub quiet : (a b : ℕ) (name : List ℕ) → QuietStays (silent_tree a) (silent_tree b) name
quiet a b name q ne was = record { each = λ f c told left. absurd (none-some f told) }

pub becomes : {R E A : Type 0} (P : A → Type 0) (r : Result R E) → OnOk r ((a : A) → None ≡ Some a → P a)
becomes P r = on_ok r (λ a told. absurd (none-some a told))

pub settled : {R E : Type 0} (P : Files → Files → Type 0) (r : Result R E) → OnOk r ((f c : Files) → None ≡ Some f → P f c)
settled P r = on_ok r (λ f c told. absurd (none-some f told))

pub spoils : {R E : Type 0} (P : Files → Files → Type 0) (r : Result R E) → OnErr r ((f g : Files) → None ≡ Some f → P f g)
spoils P r = on_err r (λ f g told. absurd (none-some f told))

pub fixed : (a : ℕ) → IsFixed (silent_tree a)
fixed a = record { names = λ f c told left q. absurd (none-some f told); files = λ f c told left q is. absurd (none-some f told) }

-- each name is sealed
pub sealed : (q : List ℕ) → true ≡ true
sealed q = refl

pub stays : true ≡ true → true ≡ true
stays is = is

pub scratch_call : {R E : Type 0} (a b m n : ℕ) (r : Result R E) → a ≤ b → (IsErr r → HasRisen a b) → IsScratchCall (silent_scratch a m) (silent_scratch b n) r
scratch_call a b m n r le cause = record { passes = record { counts = le; telling = refl }; cause = cause }
