-- What is wrong with a range line of a context hunk.
use Rattle.std.proofs.Common.{◌≡◌, ◌⊎◌, inl, inr, ℕ, ◌+◌, ◌-◌, ◌^◌, min, Bool, true, false, cond, eqb, ltb, List, ◌++◌, Option, None, Some, Result, Ok, Err, refl, sym, ap, ◌∙◌, arith}
use Rattle.std.proofs.lemmas.Bool.{eqb-true, eqb-false, ltb-true, ltb-false, or_parts, or_cases}
use Rattle.hunk_core.specs.declared.BadKind.{BadKind}
use Rattle.hunk_core.specs.declared.BadKind.TheVariants as kinds
use Rattle.hunk_core.specs.declared.Side.{Side}
use Rattle.hunk_core.specs.LineTests.{after}
use Rattle.hunk_core.proofs.TextLemmas.{after-takes, after-again}
use Rattle.num_text.specs.declared.range.NumberRange.{NumberRange}
use Rattle.context_form.specs.declared.range.Stated.{Stated}
use Rattle.context_form.specs.Ranges.{before_range, behind_range, spaced_at, numbers_at, is_bad_range, is_too_large, stated, checked, from_numbers, range_line, most, most_by, is_count, is_count_by}
use Rattle.context_form.proofs.Spaced.{read_as, spaced_form, spaced_read}
use Rattle.context_form.proofs.RangeGrammar.{is_one, line-known, join_parts, closed-ok, stops-behind}
use Rattle.hunk_core.proofs.OptionLemmas.{some_step}
use Rattle.law_faults.specs.ContextFaults.{HasNumbers, IsBadRange, IsTooLarge, StartsBelow}
use Rattle.law_faults.proofs.FailedTests.{kind_is}

-- ---- a range line that was read is spelled so, and what is spelled so is read

record NumbersForm (side : Side) (line : List ℕ) (r : NumberRange) : Type 0 where
  single : Bool
  first : ℕ
  last : ℕ
  has : HasNumbers side line single first last
  read : r ≡ read_as single first last

numbers_form : (side : Side) (line : List ℕ) (r : NumberRange) → numbers_at side line ≡ Some r → NumbersForm side line r
unfolding numbers_at
numbers_form side line r e =
    let a = some_step (after (before_range side) line) _ r e in
    let b = some_step (spaced_at a.0) _ r a.2 in
    let c = closed-ok b.0.0 (after (behind_range side) b.0.1) r b.2 in
    let f = spaced_form a.0 b.0 b.1 in
    record {
      single = f.single;
      first = f.first;
      last = f.last;
      has = record {
        text = f.text;
        rest = c.0;
        parts = join_parts line (before_range side) a.0 f.text b.0.1 (behind_range side) c.0 (after-takes (before_range side) line a.0 a.1) f.parts (after-takes (behind_range side) b.0.1 c.0 c.1);
        spelled = f.spelled;
      };
      read = sym c.2 ∙ f.read;
    }

numbers_read : (side : Side) (line : List ℕ) (single : Bool) (first last : ℕ) → HasNumbers side line single first last → numbers_at side line ≡ Some (read_as single first last)
unfolding numbers_at
numbers_read side line single first last h =
    rw (
      h.parts,
      after-again (before_range side) (h.text ++ (behind_range side ++ h.rest)),
      spaced_read h.text single first last (behind_range side ++ h.rest) h.spelled (stops-behind side h.rest),
      after-again (behind_range side) h.rest,
    ) refl

-- ---- the tests

-- what is wrong with a range line by itself
abbrev pub RangeFault : Side → ℕ → BadKind → List ℕ → Type 0
RangeFault side least kind line = ((kind ≡ kinds.Range) × IsBadRange side line) ⊎ (((kind ≡ kinds.NumberTooLarge) × IsTooLarge side line) ⊎ ((kind ≡ kinds.HunkOrder) × StartsBelow side least line))

abbrev tested : Bool → Bool → Bool → Stated → Result Stated BadKind
tested a b d s = cond a (Err kinds.Range) (cond b (Err kinds.NumberTooLarge) (cond d (Err kinds.HunkOrder) (Ok s)))

first_failed : (A B D : Type 0) (a b d : Bool) (s : Stated) (kind : BadKind) → tested a b d s ≡ Err kind → (a ≡ true → A) → (a ≡ false → b ≡ true → B) → (b ≡ false → d ≡ true → D)
    → ((kind ≡ kinds.Range) × A) ⊎ (((kind ≡ kinds.NumberTooLarge) × B) ⊎ ((kind ≡ kinds.HunkOrder) × D))
first_failed A B D true b d s kind e f g i = inl (sym (kind_is kinds.Range kind e), f refl)
first_failed A B D false true d s kind e f g i = inr (inl (sym (kind_is kinds.NumberTooLarge kind e), g refl refl))
first_failed A B D false false true s kind e f g i = inr (inr (sym (kind_is kinds.HunkOrder kind e), i refl refl))
first_failed A B D false false false s kind e f g i = absurd cc

bad : (side : Side) (line : List ℕ) (single : Bool) (first last : ℕ) → HasNumbers side line single first last → is_bad_range (read_as single first last) ≡ true → IsBadRange side line
bad side line true first last h e = absurd cc
bad side line false first last h e =
    inr (
      first,
      last,
      h,
      elim (or_cases (ltb last first) (eqb (min first (2 ^ 32)) 0) e) [
        | inl turned ↦ inl (ltb-true last first turned)
        | inr none ↦ inr (let zero_first = eqb-true (min first (2 ^ 32)) 0 none in omega arith)
      ],
    )

large : (side : Side) (line : List ℕ) (single : Bool) (first last : ℕ) → HasNumbers side line single first last → is_bad_range (read_as single first last) ≡ false → is_too_large (read_as single first last) ≡ true → IsTooLarge side line
large side line true first last h good e =
    let above = ltb-true 4294967295 (min first (2 ^ 32)) e in
    (true, first, 0, record { text = h.text; rest = h.rest; parts = h.parts; numbers = (h.spelled.1, omega arith, λ none. refl) }, omega arith)
large side line false first last h good e =
    let above = ltb-true 4294967295 (min first (2 ^ 32) + ((min last (2 ^ 32) - min first (2 ^ 32)) + 1)) e in
    let both = or_parts (ltb last first) (eqb (min first (2 ^ 32)) 0) good in
    let order = ltb-false last first both.0 in
    let later = eqb-false (min first (2 ^ 32)) 0 both.1 in
    let s = h.spelled in
    (false, first, last + 1 - first, record { text = h.text; rest = h.rest; parts = h.parts; numbers = (s.0, s.1, last, s.4, s.2, s.3, omega arith, omega arith, omega arith) }, omega arith)

below : (side : Side) (line : List ℕ) (least : ℕ) (single : Bool) (first last : ℕ) → HasNumbers side line single first last → is_too_large (read_as single first last) ≡ false → ltb (read_as single first last).first least ≡ true → StartsBelow side least line
below side line least true first last h fits e =
    let small = ltb-false 4294967295 (min first (2 ^ 32)) fits in
    let under = ltb-true (min first (2 ^ 32)) least e in
    (true, first, last, h, omega arith)
below side line least false first last h fits e =
    let small = ltb-false 4294967295 (min first (2 ^ 32) + ((min last (2 ^ 32) - min first (2 ^ 32)) + 1)) fits in
    let under = ltb-true (min first (2 ^ 32)) least e in
    (false, first, last, h, omega arith)

pub range_breaks : (side : Side) (least : ℕ) (line : List ℕ) (kind : BadKind) → range_line side least line ≡ Err kind → RangeFault side least kind line
range_breaks side least line kind e = by (numbers_at side line) refl e
  where
    by : (o : Option NumberRange) → numbers_at side line ≡ o → from_numbers least o ≡ Err kind → RangeFault side least kind line
    by None is e = inl (sym (kind_is kinds.Range kind e), inl (λ single first last h. let read = numbers_read side line single first last h in absurd cc))
    by (Some r) is e =
        let f = numbers_form side line r is in
        let q = read_as f.single f.first f.last in
        first_failed (IsBadRange side line) (IsTooLarge side line) (StartsBelow side least line) (is_bad_range q) (is_too_large q) (ltb q.first least) (stated q) kind (ap (checked least) (sym f.read) ∙ e)
        (λ is_bad. bad side line f.single f.first f.last f.has is_bad)
        (λ good is_large. large side line f.single f.first f.last f.has good is_large)
        (λ fits is_below. below side line least f.single f.first f.last f.has fits is_below)

-- ---- a start and the lines that follow

pub large_stated : (side : Side) (least : ℕ) (line : List ℕ) (s : Stated) (n : ℕ) → range_line side least line ≡ Ok s → is_count s n ≡ true → ltb 4294967295 (s.start + n) ≡ true → IsTooLarge side line
large_stated side least line s n read counts e = let above = ltb-true 4294967295 (s.start + n) e in (is_one s, s.start, n, (line-known side least line s read).spelled n counts, omega arith)

pub most-counts : (s : Stated) → is_count s (most s) ≡ true
most-counts s = by s.start s.count
  where
    none : (start : ℕ) (b : Bool) → eqb start 0 ≡ b → cond b (eqb (cond b 0 1) 0) (ltb (cond b 0 1) 2) ≡ true
    none start true is = refl
    none start false is = refl

    by : (start : ℕ) (o : Option ℕ) → is_count_by start o (most_by start o) ≡ true
    by start None = none start (eqb start 0) refl
    by start (Some count) = grind arith
