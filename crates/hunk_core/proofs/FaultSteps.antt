-- Steps of reading that failed.
use Rattle.std.proofs.Common.{Result, Err, ◌≡◌, ◌⊎◌, inl, inr, Ok, refl, ap, Bool, true, false, cond, List, ◌∷◌, ◌≢◌, ℕ, sym, ◌∙◌}
use Rattle.hunk_core.specs.Reading.{Fault, ◌>>=◌, Ahead, fault}
use Rattle.hunk_core.specs.declared.BadKind.{BadKind}
use Rattle.hunk_core.specs.PlainHunk.{PlainHunk}
use Rattle.hunk_core.specs.LineTests.{is_backslash}
use Rattle.hunk_core.specs.Refusals.{unmarked}
use Rattle.hunk_core.specs.declared.BadKind.TheVariants as kinds

abbrev pub failed : {A : Type 0} → Fault → Result A Fault
failed e = Err e

pub err_is : {A : Type 0} (d e : Fault) → failed {A = A} d ≡ failed e → d ≡ e
err_is d e h = cc

pub bind_err : {A B : Type 0} (r : Result A Fault) (f : A → Result B Fault) (e : Fault) → (r >>= f) ≡ Err e → (r ≡ Err e) ⊎ ((x : A) × (r ≡ Ok x) × (f x ≡ Err e))
bind_err (Ok x) f e h = inr (x, refl, h)
bind_err {B = B} (Err d) f e h = inl (ap (λ x. Err x) (err_is {A = B} d e h))

pub pass : {A : Type 0} (b : Bool) (d : BadKind) (x : Result A BadKind) (q : A) → cond b (Err d) x ≡ Ok q → (b ≡ false) × (x ≡ Ok q)
pass true d x q e = absurd cc
pass false d x q e = (refl, e)

pub guard_err : {A : Type 0} (b : Bool) (d e : Fault) (x : A) → cond b (failed d) (Ok x) ≡ Err e → d ≡ e
guard_err true d e x h = cc
guard_err false d e x h = absurd cc

abbrev pub add : {X : Type 0} → X → List X × Ahead → Result (List X × Ahead) Fault
add x others = Ok (x ∷ others.0, others.1)

abbrev pub put_first : PlainHunk → List PlainHunk × Ahead → Result (List PlainHunk × Ahead) Fault
put_first h others = Ok (h ∷ others.0, others.1)

pub add_err : (h : PlainHunk) (r : Result (List PlainHunk × Ahead) Fault) (e : Fault) → (r >>= put_first h) ≡ Err e → r ≡ Err e
add_err h (Ok x) e f = absurd (let bad : put_first h x ≡ failed {A = List PlainHunk × Ahead} e = f in cc)
add_err h (Err d) e f = ap (λ x. Err x) (err_is {A = List PlainHunk × Ahead} d e f)

-- a value, and what is ahead
abbrev pub with_rest : {A : Type 0} → Ahead → A → Result (A × Ahead) Fault
with_rest q a = Ok (a, q)

pub assoc : {A B : Type 0} (r : Result A Fault) (q : Ahead) (g : A → Ahead → Result (B × Ahead) Fault) → ((r >>= with_rest q) >>= λ x. g x.0 x.1) ≡ (r >>= λ a. g a q)
assoc (Ok a) q g = refl
assoc (Err d) q g = refl

pub short_or : (k : BadKind) → (k ≡ kinds.ShortEnd) ⊎ (k ≢ kinds.ShortEnd)
short_or kinds.Range = inr (λ h. cc)
short_or kinds.Mark = inr (λ h. cc)
short_or kinds.Count = inr (λ h. cc)
short_or kinds.ShortEnd = inl refl
short_or kinds.NumberTooLarge = inr (λ h. cc)
short_or kinds.SidesDiffer = inr (λ h. cc)
short_or kinds.MisplacedBackslash = inr (λ h. cc)
short_or kinds.EdCommand = inr (λ h. cc)
short_or kinds.EdOrder = inr (λ h. cc)
short_or kinds.EdNoDot = inr (λ h. cc)
short_or kinds.Binary = inr (λ h. cc)
short_or kinds.HunkOrder = inr (λ h. cc)

pub here-is : (number : ℕ) (kind : BadKind) (e : Fault) → kind ≢ kinds.ShortEnd → fault number kind ≡ e → (e.line ≡ number) × (e.kind ≢ kinds.ShortEnd)
here-is number kind e ne is = (sym (ap (λ (x : Fault). x.line) is), λ short. ne (ap (λ (x : Fault). x.kind) is ∙ short))

pub unmarked-kind : (line : List ℕ) → unmarked line ≢ kinds.ShortEnd
unmarked-kind line = by (is_backslash line)
  where
    by : (b : Bool) → cond b kinds.MisplacedBackslash kinds.Mark ≢ kinds.ShortEnd
    by true = λ h. cc
    by false = λ h. cc
