-- What is counted along a text stays within its length, and what is put into a number fits.
use Rattle.std.proofs.Common.{◌≡◌, ℕ, ◌+◌, ◌-◌, ◌*◌, ◌<◌, ◌≤◌, ◌^◌, eqb, false, ◌||◌, ◌∷◌, [], ◌++◌, List, length, take, Fits, w32, w64, sym, ap, subst, ◌∙◌, arith, length-append, length-take-le}
use Rattle.std.proofs.lemmas.Bool.{or_parts}
use Rattle.line_list.specs.Lines.{IsLineAt}
use Rattle.hunk_core.specs.Rules.{is_too_large}
use Rattle.split_recount.specs.declared.body.Body.{Body}
use Rattle.split_recount.specs.declared.recounting.Reached.{Reached}
use Rattle.split_recount.specs.Measured.{IsMeasured}
use Rattle.split_recount.specs.Walking.{IsReached}
use Rattle.split_recount.proofs.Measuring.{Measures}

pub low-end : {text : List ℕ} {at end : ℕ} → IsLineAt text at end → at ≤ end
low-end line = omega (arith, line.low)

pub nearer : {text : List ℕ} {at end : ℕ} → IsLineAt text at end → length text - end < length text - at
nearer line = omega (arith, line.low, line.high)

pub one-fits : (n : ℕ) → n < 2 ^ 32 → Fits w64 (n + 1)
one-fits n small = omega (arith, small)

pub line-fits : (n at long : ℕ) → n < at + 2 ^ 32 → at ≤ long → long < 2 ^ 32 → Fits w64 (n + 1)
line-fits n at long small within short = omega (arith, small, within, short)

pub number-fits : (n at long : ℕ) → n ≤ at + 2 ^ 32 → at ≤ long → long < 2 ^ 32 → Fits w64 (n + 1)
number-fits n at long small within short = omega (arith, small, within, short)

pub next-number : (n at : ℕ) → n < at + 2 ^ 32 → n + 1 ≤ at + 2 ^ 32
next-number n at small = omega (arith, small)

pub place-fits : (n : ℕ) → n < 2 ^ 32 → Fits w64 (n * 304)
place-fits n small = omega (arith, small)

pub patch-fits : (n count : ℕ) → n < count → count < 2 ^ 32 → Fits w32 n
patch-fits n count below few = omega (arith, below, few)

pub text-short : (n : ℕ) → n < 2 ^ 31 → n < 2 ^ 32
text-short n short = omega (arith, short)

pub small-short : (n : ℕ) → n ≤ 268435456 → n < 2 ^ 31
small-short n small = omega (arith, small)

-- a text with a line feed more
pub longer-short : (text whole given : List ℕ) → given ≡ whole → whole ≡ text ++ 10 ∷ [] → length text ≤ 268435456 → length given < 2 ^ 31
longer-short text whole given e f small =
    let long : length given ≡ length text + 1 = ap length (e ∙ f) ∙ length-append text (10 ∷ []) in
    omega (arith, long, small)

pub digits-taken : (n : ℕ) (digits : List ℕ) → length digits ≡ 20 → n ≤ 20 → n ≡ length (take n digits)
digits-taken n digits long few = sym (length-take-le n digits (omega (arith, long, few)))

pub digits-within : (n : ℕ) (digits : List ℕ) → length digits ≡ 20 → n ≤ 20 → n ≤ length digits
digits-within n digits long few = omega (arith, long, few)

-- ---- a body that was measured so far

pub lines-fit : {text : List ℕ} {at : ℕ} {b : Body} → length text < 2 ^ 32 → Measures text at b → Fits w64 (b.lines + 1)
lines-fit short m = omega (arith, short, m.high, m.few.lines)

pub old-small : {text : List ℕ} {at : ℕ} {b : Body} → length text < 2 ^ 32 → Measures text at b → b.sides.old < 2 ^ 32
old-small short m = omega (arith, short, m.high, m.few.lines, m.few.old)

pub new-small : {text : List ℕ} {at : ℕ} {b : Body} → length text < 2 ^ 32 → Measures text at b → b.sides.new < 2 ^ 32
new-small short m = omega (arith, short, m.high, m.few.lines, m.few.new)

-- ---- a place that was reached

pub reached-fits : {text : List ℕ} {r : Reached} → length text < 2 ^ 31 → IsReached text r → Fits w64 (r.number + 1)
reached-fits short r = omega (arith, short, r.within, r.number)

pub reached-small : {text : List ℕ} {r : Reached} {end : ℕ} → IsReached text r → IsLineAt text r.at end → r.number < end + 2 ^ 32
reached-small r line = omega (arith, r.number, line.low)

pub earlier-small : {text : List ℕ} {r : Reached} → length text < 2 ^ 31 → IsReached text r → (r.earlier.old < 2 ^ 32) × (r.earlier.new < 2 ^ 32)
earlier-small short r = (omega (arith, short, r.within, r.old), omega (arith, short, r.within, r.new))

module _ {text : List ℕ} {r : Reached} {end : ℕ} {b : Body} (short : length text < 2 ^ 31) (reached : IsReached text r) (m : IsMeasured text end b) where
  pub behind-fits : Fits w64 (r.number + 1 + b.lines)
  behind-fits = omega (arith, short, reached.within, reached.number, m.high, m.few.lines)

  pub old-fits : Fits w64 (r.earlier.old + b.sides.old)
  old-fits = omega (arith, short, reached.within, reached.old, m.high, m.few.lines, m.few.old)

  pub new-fits : Fits w64 (r.earlier.new + b.sides.new)
  new-fits = omega (arith, short, reached.within, reached.new, m.high, m.few.lines, m.few.new)

  pub body-behind : end ≤ b.end
  body-behind = omega (arith, m.few.lines)

-- ---- the start of a range that isn't too large

pub start-small : (start count other more : ℕ) → (is_too_large start count || is_too_large other more) ≡ false → start < 2 ^ 32
start-small start count other more e =
    let first : is_too_large start count ≡ false = (or_parts (is_too_large start count) (is_too_large other more) e).0 in
    grind (arith, first)

-- ---- tests on lengths

pub some-if : {A : Type 0} (xs ys : List A) → xs ≡ ys → (eqb (length xs) 0 ≡ false) → 0 < length ys
some-if [] ys same e = absurd cc
some-if (x ∷ xs) ys same e = subst (λ l. 0 < length l) same (omega arith)

pub some-text : (end : ℕ) (text : List ℕ) → end ≡ length text → (end ≡ 0 → ⊥) → 0 < length text
some-text end text is some = omega (arith, is, some)
