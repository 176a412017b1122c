-- A range line of the unified form, whatever its numbers.
use Rattle.std.proofs.Common.{◌≡◌, ℕ, ◌+◌, ◌^◌, ◌≤◌, ◌⊎◌, min, Bool, true, false, cond, eqb, ltb, ◌||◌, ◌&&◌, List, [], ◌∷◌, ◌++◌, Option, None, Some, Result, Ok, Err, refl, sym, ap, subst, ◌∙◌, append_assoc, arith, inl, inr}
use Rattle.std.proofs.lemmas.Bool.{eqb-true, eqb-false, ltb-true, ltb-false, or_parts, and_parts, or_cases}
use Rattle.hunk_core.specs.declared.BadKind.{BadKind}
use Rattle.hunk_core.specs.declared.BadKind.TheVariants as kinds
use Rattle.hunk_core.specs.LineTests.{after}
use Rattle.hunk_core.proofs.TextLemmas.{after-takes, after-again}
use Rattle.line_list.proofs.Choices.{chosen, some_is}
use Rattle.num_text.specs.Numbers.{number_at, IsNumeral, NoDigitFirst, BeginsWithNumeral}
use Rattle.num_text.proofs.Runs.{number-takes, number-again}
use Rattle.unified_form.specs.declared.range.Ranges.{Ranges}
use Rattle.unified_form.specs.Ranges.{capped, size_at, count_at, range_at, range_line, is_bad_range, checked, from_ranges, opening}
use Rattle.unified_form.specs.Grammar.{SpellsRange, SpellsRanges}
use Rattle.hunk_core.specs.OptionSteps.{◌>>=◌}
use Rattle.hunk_core.specs.Rules.{is_too_large}
use Rattle.hunk_core.proofs.OptionLemmas.{some_step}
use Rattle.unified_form.proofs.RangeGrammar.{made, join_parts}
use Rattle.law_faults.specs.UnifiedFaults.{StartsAtNone, Breaks}
use Rattle.law_faults.proofs.FailedTests.{kind_is}

-- ---- numbers

-- a number that was read is the one that is spelled, or stands for a larger one
record SizeAt (bytes : List ℕ) (x : ℕ × List ℕ) : Type 0 where
  value : ℕ
  ds : List ℕ
  begins : BeginsWithNumeral bytes ds value x.1
  read : x.0 ≡ min value (2 ^ 32)

size_form : (bytes : List ℕ) (x : ℕ × List ℕ) → size_at bytes ≡ Some x → SizeAt bytes x
size_form bytes x e =
    let a = some_step (number_at bytes) capped x e in
    let t = number-takes bytes a.0 a.1 in
    let found : ℕ × List ℕ = (min a.0.0 (2 ^ 32), a.0.1) in
    let same : found ≡ x = some_is found x (Some found) refl a.2 in
    let rest : a.0.1 ≡ x.1 = ap (λ (p : ℕ × List ℕ). p.1) same in
    record {
      value = a.0.0;
      ds = t.0;
      begins = record { parts = t.1.parts ∙ ap (λ (r : List ℕ). t.0 ++ r) rest; numeral = t.1.numeral; longest = subst NoDigitFirst rest t.1.longest };
      read = sym (ap (λ (p : ℕ × List ℕ). p.0) same);
    }

size_read : (ds : List ℕ) (n : ℕ) (rest : List ℕ) → IsNumeral ds n → NoDigitFirst rest → size_at (ds ++ rest) ≡ Some (min n (2 ^ 32), rest)
size_read ds n rest is none = rw (number-again ds n rest is none) refl

-- ---- ranges

record CountAt (bytes : List ℕ) (x : ℕ × List ℕ) : Type 0 where
  value : ℕ
  spelled : ((value ≡ 1) × (bytes ≡ x.1)) ⊎ ((cs : List ℕ) × IsNumeral cs value × (bytes ≡ 44 ∷ (cs ++ x.1)))
  read : x.0 ≡ min value (2 ^ 32)

no_count : (bytes : List ℕ) (x : ℕ × List ℕ) (found : ℕ × List ℕ) → found.0 ≡ 1 → found.1 ≡ bytes → Some found ≡ Some x → CountAt bytes x
no_count bytes x found one all e =
    let same : found ≡ x = some_is found x (Some found) refl e in
    let is : x.0 ≡ 1 = sym (ap (λ (p : ℕ × List ℕ). p.0) same) ∙ one in
    record { value = 1; spelled = inl (refl, sym all ∙ ap (λ (p : ℕ × List ℕ). p.1) same); read = omega (arith, is) }

count_form : (bytes : List ℕ) (x : ℕ × List ℕ) → count_at bytes ≡ Some x → CountAt bytes x
unfolding count_at
count_form [] x e = no_count [] x (1, []) refl refl e
count_form (b ∷ bytes) x e =
    elim (chosen (eqb b 44) _ _ (Some x) e) [
      | inl comma ↦ (
          let s = size_form bytes x comma.1 in
          let first : b ≡ 44 = eqb-true b 44 comma.0 in
          record { value = s.value; spelled = inr (s.ds, s.begins.numeral, ap (λ (c : ℕ). c ∷ bytes) first ∙ ap (λ (r : List ℕ). 44 ∷ r) s.begins.parts); read = s.read })
      | inr other ↦ no_count (b ∷ bytes) x (1, b ∷ bytes) refl refl other.1
    ]

record RangeAt (bytes : List ℕ) (x : (ℕ × ℕ) × List ℕ) : Type 0 where
  text : List ℕ
  start : ℕ
  count : ℕ
  parts : bytes ≡ text ++ x.1
  spelled : SpellsRange text start count
  start_read : x.0.0 ≡ min start (2 ^ 32)
  count_read : x.0.1 ≡ min count (2 ^ 32)

range_with : (bytes : List ℕ) (start count : ℕ × List ℕ) → SizeAt bytes start → CountAt start.1 count → RangeAt bytes ((start.0, count.0), count.1)
range_with bytes start count s c =
    elim c.spelled [
      | inl none ↦ record { text = s.ds; start = s.value; count = c.value; parts = s.begins.parts ∙ ap (λ (r : List ℕ). s.ds ++ r) none.1; spelled = (s.ds, s.begins.numeral, inl (none.0, refl)); start_read = s.read; count_read = c.read }
      | inr some ↦ record { text = s.ds ++ 44 ∷ some.0; start = s.value; count = c.value; parts = s.begins.parts ∙ ap (λ (r : List ℕ). s.ds ++ r) some.2 ∙ sym (append_assoc s.ds (44 ∷ some.0) count.1); spelled = (s.ds, s.begins.numeral, inr (some.0, some.1, refl)); start_read = s.read; count_read = c.read }
    ]

range_form : (bytes : List ℕ) (x : (ℕ × ℕ) × List ℕ) → range_at bytes ≡ Some x → RangeAt bytes x
unfolding range_at
range_form bytes x e =
    let a = some_step (size_at bytes) (λ start. count_at start.1 >>= λ count. Some ((start.0, count.0), count.1)) x e in
    let b = some_step (count_at a.0.1) (λ count. Some ((a.0.0, count.0), count.1)) x a.2 in
    let found : (ℕ × ℕ) × List ℕ = ((a.0.0, b.0.0), b.0.1) in
    subst (λ (y : (ℕ × ℕ) × List ℕ). RangeAt bytes y) (some_is found x (Some found) refl b.2) (range_with bytes a.0 b.0 (size_form bytes a.0 a.1) (count_form a.0.1 b.0 b.1))

range_read : (text : List ℕ) (start count : ℕ) (more : List ℕ) → SpellsRange text start count → range_at (text ++ 32 ∷ more) ≡ Some ((min start (2 ^ 32), min count (2 ^ 32)), 32 ∷ more)
unfolding range_at count_at
range_read text start count more s =
    elim s.2 [
      | inl h ↦ rw (h.1, size_read s.0 start (32 ∷ more) s.1 refl, h.0) refl
      | inr h ↦ (
          let parts : text ++ 32 ∷ more ≡ s.0 ++ (44 ∷ (h.0 ++ 32 ∷ more)) = ap (λ (t : List ℕ). t ++ 32 ∷ more) h.2 ∙ append_assoc s.0 (44 ∷ h.0) (32 ∷ more) in
          rw (parts, size_read s.0 start (44 ∷ (h.0 ++ 32 ∷ more)) s.1 refl, size_read h.0 count (32 ∷ more) h.1 refl) refl)
    ]

-- ---- the range line

-- numbers that were read, and the numbers that are spelled
record IsCapped (r q : Ranges) : Type 0 where
  old_start : r.old_start ≡ min q.old_start (2 ^ 32)
  old_count : r.old_count ≡ min q.old_count (2 ^ 32)
  new_start : r.new_start ≡ min q.new_start (2 ^ 32)
  new_count : r.new_count ≡ min q.new_count (2 ^ 32)

line_form : (line : List ℕ) (r : Ranges) → range_line line ≡ Some r → (q : Ranges) × SpellsRanges line q × IsCapped r q
unfolding range_line
line_form line r e =
    let a = some_step (after (64 ∷ 64 ∷ 32 ∷ 45 ∷ []) line) _ r e in
    let b = some_step (range_at a.0) _ r a.2 in
    let c = some_step (after (32 ∷ 43 ∷ []) b.0.1) _ r b.2 in
    let d = some_step (range_at c.0) _ r c.2 in
    let f = some_step (after (32 ∷ 64 ∷ 64 ∷ []) d.0.1) _ r d.2 in
    let found : Ranges = made b.0.0.0 b.0.0.1 d.0.0.0 d.0.0.1 in
    let same : found ≡ r = some_is found r (Some found) refl f.2 in
    let old = range_form a.0 b.0 b.1 in
    let new = range_form c.0 d.0 d.1 in
    let parts = join_parts line a.0 old.text b.0.1 c.0 new.text d.0.1 f.0 (after-takes (64 ∷ 64 ∷ 32 ∷ 45 ∷ []) line a.0 a.1) old.parts (after-takes (32 ∷ 43 ∷ []) b.0.1 c.0 c.1) new.parts (after-takes (32 ∷ 64 ∷ 64 ∷ []) d.0.1 f.0 f.1) in (
      made old.start old.count new.start new.count,
      record { old = old.text; new = new.text; rest = f.0; parts = parts; old_range = old.spelled; new_range = new.spelled },
      subst (λ (x : Ranges). IsCapped x (made old.start old.count new.start new.count)) same (record { old_start = old.start_read; old_count = old.count_read; new_start = new.start_read; new_count = new.count_read }),
    )

line_read : (line : List ℕ) (q : Ranges) → SpellsRanges line q → range_line line ≡ Some (made (min q.old_start (2 ^ 32)) (min q.old_count (2 ^ 32)) (min q.new_start (2 ^ 32)) (min q.new_count (2 ^ 32)))
unfolding range_line
line_read line q s =
    let third : List ℕ = 64 ∷ 64 ∷ s.rest in
    let second : List ℕ = 43 ∷ (s.new ++ 32 ∷ third) in
    rw (
      s.parts,
      after-again (64 ∷ 64 ∷ 32 ∷ 45 ∷ []) (s.old ++ 32 ∷ second),
      range_read s.old q.old_start q.old_count second s.old_range,
      after-again (32 ∷ 43 ∷ []) (s.new ++ 32 ∷ third),
      range_read s.new q.new_start q.new_count third s.new_range,
      after-again (32 ∷ 64 ∷ 64 ∷ []) s.rest,
    ) refl

-- ---- the tests

-- the first test that fails is the one of the kind
abbrev tested : Bool → Bool → Bool → Bool → Ranges → Result Ranges BadKind
tested a b c d r = cond a (Err kinds.Range) (cond b (Err kinds.NumberTooLarge) (cond c (Err kinds.Count) (cond d (Err kinds.HunkOrder) (Ok r))))

first_failed : (P : BadKind → Type 0) (a b c d : Bool) (r : Ranges) (kind : BadKind) → tested a b c d r ≡ Err kind → (a ≡ true → P kinds.Range) → (b ≡ true → P kinds.NumberTooLarge) → (c ≡ true → P kinds.Count) → (b ≡ false → d ≡ true → P kinds.HunkOrder) → P kind
first_failed P true b c d r kind e f g h i = subst P (kind_is kinds.Range kind e) (f refl)
first_failed P false true c d r kind e f g h i = subst P (kind_is kinds.NumberTooLarge kind e) (g refl)
first_failed P false false true d r kind e f g h i = subst P (kind_is kinds.Count kind e) (h refl)
first_failed P false false false true r kind e f g h i = subst P (kind_is kinds.HunkOrder kind e) (i refl refl)
first_failed P false false false false r kind e f g h i = absurd cc

at_none : (start count q_start q_count : ℕ) → is_bad_range start count ≡ true → start ≡ min q_start (2 ^ 32) → count ≡ min q_count (2 ^ 32) → StartsAtNone q_start q_count
at_none start count q_start q_count e s c =
    elim (chosen (eqb start 0) (cond (eqb count 0) false true) false true e) [
      | inl at_zero ↦ elim (chosen (eqb count 0) false true true at_zero.1) [
        | inl none ↦ absurd cc
        | inr some ↦ (let zero_start = eqb-true start 0 at_zero.0 in let later = eqb-false count 0 some.0 in (omega arith, omega arith))
      ]
      | inr later ↦ absurd cc
    ]

comes_above : (start count q_start q_count : ℕ) → is_too_large start count ≡ true → start ≡ min q_start (2 ^ 32) → count ≡ min q_count (2 ^ 32) → 2 ^ 32 ≤ q_start + q_count
comes_above start count q_start q_count e s c = let above = ltb-true 4294967295 (start + count) e in omega arith

none_counted : (count q_count : ℕ) → eqb count 0 ≡ true → count ≡ min q_count (2 ^ 32) → q_count ≡ 0
none_counted count q_count e c = let none = eqb-true count 0 e in omega arith

checked_breaks : (least : ℕ) (line : List ℕ) (r q : Ranges) (kind : BadKind) → SpellsRanges line q → IsCapped r q → checked least r ≡ Err kind → Breaks least kind [] line
checked_breaks least line r q kind s c e =
    first_failed (λ k. Breaks least k [] line) (is_bad_range r.old_start r.old_count || is_bad_range r.new_start r.new_count) (is_too_large r.old_start r.old_count || is_too_large r.new_start r.new_count) (eqb r.old_count 0 && eqb r.new_count 0) (ltb r.old_start least) r kind e
    (λ bad. (
      refl,
      inr (
        q,
        s,
        elim (or_cases _ _ bad) [
          | inl old ↦ inl (at_none r.old_start r.old_count q.old_start q.old_count old c.old_start c.old_count)
          | inr new ↦ inr (at_none r.new_start r.new_count q.new_start q.new_count new c.new_start c.new_count)
        ],
      ),
    ))
    (λ large. (
      refl,
      (
        q,
        s,
        elim (or_cases _ _ large) [
          | inl old ↦ inl (comes_above r.old_start r.old_count q.old_start q.old_count old c.old_start c.old_count)
          | inr new ↦ inr (comes_above r.new_start r.new_count q.new_start q.new_count new c.new_start c.new_count)
        ],
      ),
    ))
    (λ none. let both = and_parts _ _ none in inl (refl, (q, s, none_counted r.old_count q.old_count both.0 c.old_count, none_counted r.new_count q.new_count both.1 c.new_count)))
    (λ fits below. (refl, (q, s, let under = ltb-true r.old_start least below in let read = c.old_start in let small = ltb-false 4294967295 (r.old_start + r.old_count) (or_parts _ _ fits).0 in omega arith)))

pub opening_breaks : (least : ℕ) (line : List ℕ) (kind : BadKind) → opening least line ≡ Err kind → Breaks least kind [] line
opening_breaks least line kind e = by (range_line line) refl e
  where
    by : (o : Option Ranges) → range_line line ≡ o → from_ranges least o ≡ Err kind → Breaks least kind [] line
    by None is e = subst (λ k. Breaks least k [] line) (kind_is kinds.Range kind e) (refl, inl (λ q s. let read = line_read line q s in absurd cc))
    by (Some r) is e = let f = line_form line r is in checked_breaks least line r f.0 kind f.1 f.2 e
