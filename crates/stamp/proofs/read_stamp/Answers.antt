use Rattle.std.proofs.Common.{◌≡◌, List, ℕ, None, Some, refl, sym, subst, ap, inl, inr}
use Rattle.stamp.specs.declared.Stamp.TheVariants.{Known, Unknown}
use Rattle.outside.specs.declared.time.Time.{Time}
use Rattle.stamp.specs.Forms.{IsStamp}
use Rattle.stamp.specs.Reading.{numeric_of, named_of}
use Rattle.stamp.proofs.NamedLemmas.{named-some, numeric-stamp, named-stamp, no-stamp}
use Rattle.stamp.proofs.NumericLemmas.{numeric-some}
use Rattle.stamp.proofs.read_stamp.Goals as goal

-- the answer is the one time that the text is a stamp of
one : (text : List ℕ) (t y : Time) → IsStamp text t → ((x : Time) → IsStamp text x → t ≡ x) → (Known t ≡ Known y → IsStamp text y) × (IsStamp text y → Known t ≡ Known y)
one text t y is only = (λ h. (let k : t ≡ y = cc in subst (IsStamp text) k is), λ s. ap Known (only y s))

known : (text : List ℕ) (t : Time) → IsStamp text t → (Known t ≡ Unknown → (y : Time) → IsStamp text y → ⊥) × (((y : Time) → IsStamp text y → ⊥) → Known t ≡ Unknown)
known text t is = (λ h. absurd cc, λ none. absurd (none t is))

unknown-apart : {A : Type 0} (y : Time) → Unknown ≡ Known y → A
unknown-apart y is = absurd cc

pub returns-in-Some-clause-known : goal.returns-in-Some-clause-known
returns-in-Some-clause-known c = λ y.
    let e : numeric_of c.args.text.now ≡ Some c.in-Some.time = sym c.in-Some.ensures in
    one c.args.text.now c.in-Some.time y (inl (numeric-some c.args.text.now c.in-Some.time e)) (numeric-stamp c.args.text.now c.in-Some.time e)

pub returns-in-Some-clause-unknown : goal.returns-in-Some-clause-unknown
returns-in-Some-clause-unknown c =
    known c.args.text.now c.in-Some.time (inl (numeric-some c.args.text.now c.in-Some.time (sym c.in-Some.ensures)))

pub returns-in-Some-named-clause-known : goal.returns-in-Some-named-clause-known
returns-in-Some-named-clause-known c = λ y.
    let n : numeric_of c.args.text.now ≡ None = sym c.in-None.ensures in
    let e : named_of c.args.text.now ≡ Some c.in-Some-named.time = sym c.in-Some-named.ensures in
    one c.args.text.now c.in-Some-named.time y (inr (named-some c.args.text.now c.in-Some-named.time e)) (named-stamp c.args.text.now c.in-Some-named.time n e)

pub returns-in-Some-named-clause-unknown : goal.returns-in-Some-named-clause-unknown
returns-in-Some-named-clause-unknown c =
    known c.args.text.now c.in-Some-named.time (inr (named-some c.args.text.now c.in-Some-named.time (sym c.in-Some-named.ensures)))

pub returns-in-None-named-clause-known : goal.returns-in-None-named-clause-known
returns-in-None-named-clause-known c = λ y.
    (unknown-apart y, λ s. absurd (no-stamp c.args.text.now (sym c.in-None.ensures) (sym c.in-None-named.ensures) y s))

pub returns-in-None-named-clause-unknown : goal.returns-in-None-named-clause-unknown
returns-in-None-named-clause-unknown c =
    (λ h y s. no-stamp c.args.text.now (sym c.in-None.ensures) (sym c.in-None-named.ensures) y s, λ h. refl)
