-- Writes in parts, as the calls of `put_all` give them, and what is written with `-s`.
use Rattle.std.proofs.Common.{◌≡◌, ℕ, ℤ, List, [], Bool, true, false, not, ◌&&◌, if◌then◌else◌, Result, Ok, OnOk, OnErr, refl, sym, ap, subst, ◌∙◌, to_z, of_z, w64}
use Rattle.std.proofs.lemmas.Int.{to_z-of_z}
use mir.Val.{SFits}
use Rattle.outside.specs.SinkView.{SinkView, IsSinkCall, Receives, ReceivesPart, Writes}
use Rattle.outside.proofs.Writing.{writes_is, writes_none}
use Rattle.patch_options.specs.PlainJob.{PlainOptions}
use Rattle.say_text.specs.Messages.{silenced}

-- one call, whose piece is this text
pub by_one : {R E : Type 0} {a b : SinkView} (r : Result R E) (p q : List ℕ) → IsSinkCall a b r → OnOk r (Receives a b p) → OnErr r (ReceivesPart a b p) → p ≡ q → Writes a b r q
by_one r p q call received failed is = writes_is r q (record { call = call; received = received; failed = failed }) is

-- without `-s` the whole text is written
pub heard : {R E : Type 0} {a b : SinkView} (o : PlainOptions) (r : Result R E) (p : List ℕ) → o.silent ≡ false → Writes a b r p → Writes a b r (silenced o p)
heard {a = a} {b = b} o r p loud w = subst (λ (is_silent : Bool). Writes a b r (if is_silent then [] else p)) (sym loud) w

-- and with `-s` nothing is
pub silent : {R E : Type 0} (a : SinkView) (o : PlainOptions) (x : R) (p : List ℕ) → o.silent ≡ true → Writes {E = E} a a (Ok x) (silenced o p)
silent {E = E} a o x p is = subst (λ (is_silent : Bool). Writes {E = E} a a (Ok x) (if is_silent then [] else p)) (sym is) (writes_none a x)

-- a text that is written where a test holds, but with `-s`
pub told : {R E : Type 0} {a b : SinkView} (o : PlainOptions) (test : Bool) (r : Result R E) (p : List ℕ) → (not o.silent && test) ≡ true → Writes a b r p → Writes a b r (silenced o (if test then p else []))
told {a = a} {b = b} o test r p is w = subst (λ (l : List ℕ). Writes a b r l) (sym (whole o.silent test is)) w
  where
    whole : (s t : Bool) → (not s && t) ≡ true → (if s then [] else (if t then p else [])) ≡ p
    whole true t holds = absurd (cc)
    whole false true holds = refl
    whole false false holds = absurd (cc)

pub untold : {R E : Type 0} (a : SinkView) (o : PlainOptions) (test : Bool) (x : R) (p : List ℕ) → (not o.silent && test) ≡ false → Writes {E = E} a a (Ok x) (silenced o (if test then p else []))
untold {E = E} a o test x p is = subst (λ (l : List ℕ). Writes {E = E} a a (Ok x) l) (sym (nothing o.silent test is)) (writes_none a x)
  where
    nothing : (s t : Bool) → (not s && t) ≡ false → (if s then [] else (if t then p else [])) ≡ []
    nothing true t fails = refl
    nothing false true fails = absurd (cc)
    nothing false false fails = refl

-- a result that a call gives of signed numbers that were passed to it
pub passed : {A : Type 0} (f : ℤ → A) (x : ℤ) (r : A) → SFits w64 x → r ≡ f (to_z w64 (of_z w64 x)) → r ≡ f x
passed f x r fits is = is ∙ ap f (to_z-of_z w64 x fits)

pub passed_both : {A : Type 0} (f : ℤ → ℤ → A) (x y : ℤ) (r : A) → SFits w64 x → SFits w64 y → r ≡ f (to_z w64 (of_z w64 x)) (to_z w64 (of_z w64 y)) → r ≡ f x y
passed_both f x y r fits also is = passed (λ (z : ℤ). f z y) x r fits (passed (λ (z : ℤ). f (to_z w64 (of_z w64 x)) z) y r also is)
