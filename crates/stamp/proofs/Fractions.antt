-- The nanoseconds of a fraction.
use Rattle.std.proofs.Common.{◌≡◌, ℕ, ◌+◌, ◌-◌, ◌*◌, ◌/◌, ◌<◌, ◌≤◌, Bool, true, false, cond, leb, List, [], ◌∷◌, ◌++◌, length, get_or, drop, None, Some, refl, ap, ◌∙◌, arith, inl, inr, length-drop}
use Rattle.std.proofs.lemmas.List.{get_or-drop}
use Rattle.std.proofs.Math.Nat.{mul-le-mul_right}
use Rattle.std.proofs.lemmas.Bool.{and_from, le-leb}
use Rattle.num_text.specs.Numbers.{is_digit, AllDigits}
use Rattle.stamp.specs.Forms.{IsFraction, worth, nanoseconds_of}
use Rattle.stamp.specs.Reading.{digit_at, worth_in, nanoseconds_in}
use Rattle.stamp.proofs.Digits.{piece, digit-some}
use Rattle.stamp.proofs.Parts.{Ends}

pub digit-within : (text : List ℕ) (at d : ℕ) → digit_at text at ≡ Some d → at < length text
digit-within text at d e = omega (arith, ap length (piece text at (48 + d) (digit-some text at d e).1 (omega arith)), length-drop at text)

pub worth-step : (text : List ℕ) (at d unit : ℕ) → digit_at text at ≡ Some d → worth_in unit (drop at text) ≡ d * unit + worth_in (unit / 10) (drop (at + 1) text)
unfolding worth_in
worth-step text at d unit e =
    let s = digit-some text at d e in
    let is : is_digit (48 + d) ≡ true = and_from (leb 48 (48 + d)) (leb (48 + d) 57) (le-leb _ _ (omega arith)) (le-leb _ _ (omega (arith, s.0))) in
    let value : 48 + d - 48 ≡ d = omega arith in
    ap (worth_in unit) (piece text at (48 + d) s.1 (omega arith)) ∙ rw (is, value) refl

no-digit : (unit : ℕ) (xs : List ℕ) → is_digit (get_or xs 0 0) ≡ false → worth_in unit xs ≡ 0
unfolding worth_in
no-digit unit [] e = refl
no-digit unit (x ∷ xs) e = rw e refl

pub worth-end : (text : List ℕ) (at unit : ℕ) → digit_at text at ≡ None → worth_in unit (drop at text) ≡ 0
unfolding digit_at
worth-end text at unit e = by (is_digit (get_or text at 0)) refl e
  where
    first : get_or (drop at text) 0 0 ≡ get_or text at 0
    first = get_or-drop at text 0 0 ∙ ap (λ k. get_or text k 0) (plain at)
      where
        plain : (k : ℕ) → k + 0 ≡ k
        plain k = omega arith

    by : (v : Bool) → is_digit (get_or text at 0) ≡ v → cond v (Some (get_or text at 0 - 48)) None ≡ None → worth_in unit (drop at text) ≡ 0
    by true is none = absurd cc
    by false is none = no-digit unit (drop at text) (ap is_digit first ∙ is)

at-most : (d unit : ℕ) → d < 10 → d * unit ≤ 9 * unit
at-most d unit lt = mul-le-mul_right unit (omega arith)

-- a digit more leaves room for those behind it
pub worth-room : (value unit d : ℕ) → d < 10 → value < 1_000_000_000 → value + unit * 10 ≤ 1_000_000_000 → (value + d * unit < 1_000_000_000) × (value + d * unit + unit / 10 * 10 ≤ 1_000_000_000)
worth-room value unit d lt less room =
    let m : d * unit ≤ 9 * unit = at-most d unit lt in
    (omega (arith, m, less, room), omega (arith, m, less, room))

digits-read : (unit : ℕ) (digits more : List ℕ) → AllDigits digits → Ends more → worth_in unit (digits ++ more) ≡ worth unit digits
unfolding worth_in worth
digits-read unit [] more all ends = no-digit unit more ends.no_digit
digits-read unit (d ∷ ds) more all ends =
    let is : is_digit d ≡ true = all.0 in
    rw is (ap (λ n. (d - 48) * unit + n) (digits-read (unit / 10) ds more all.1 ends))

no-fraction : (more : List ℕ) → Ends more → nanoseconds_in more ≡ 0
unfolding nanoseconds_in
no-fraction more ends = rw ends.no_dot refl

pub nanoseconds-read : (bytes more : List ℕ) → IsFraction bytes → Ends more → nanoseconds_in (bytes ++ more) ≡ nanoseconds_of bytes
unfolding nanoseconds_in
nanoseconds-read bytes more (inl e) ends = rw e (no-fraction more ends)
nanoseconds-read bytes more (inr (digits, e, some, all)) ends = rw e (digits-read 100_000_000 digits more all ends)

pub sum-on : (value all first rest : ℕ) → all ≡ first + rest → value + first + rest ≡ value + all
sum-on value all first rest e = omega (arith, e)

pub sum-end : (value : ℕ) {rest : ℕ} → rest ≡ 0 → value ≡ value + rest
sum-end value e = omega (arith, e)
