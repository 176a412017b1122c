-- A range line that is read is spelled so, and one that is spelled so is read.
use Rattle.std.proofs.Common.{◌≡◌, ℕ, ◌+◌, ◌-◌, ◌^◌, ◌<◌, ◌≤◌, min, Bool, true, false, cond, eqb, ltb, ◌||◌, List, ◌∷◌, ◌++◌, Option, None, Some, Ok, refl, sym, ap, subst, ◌∙◌, append_assoc, arith, inl, inr}
use Rattle.std.specs.Prelude.{is_some}
use Rattle.std.proofs.lemmas.Bool.{eqb-true, eqb-false, ltb-true, ltb-false, le-ltb, lt-ltb, ne_eqb, or_parts}
use Rattle.hunk_core.specs.declared.BadKind.TheVariants as kinds
use Rattle.hunk_core.specs.declared.Side.{Side}
use Rattle.hunk_core.specs.declared.Side.TheVariants.{Forward, Reversed}
use Rattle.hunk_core.specs.LineTests.{after, is_backslash}
use Rattle.line_list.proofs.Choices.{chosen}
use Rattle.hunk_core.proofs.TextLemmas.{after-takes, after-again}
use Rattle.num_text.specs.declared.range.NumberRange.{NumberRange}
use Rattle.num_text.specs.Numbers.{number_at, NoDigitFirst}
use Rattle.num_text.proofs.RangeGrammar.{ranged}
use Rattle.hunk_core.specs.OptionSteps.{◌>>=◌}
use Rattle.hunk_core.proofs.OptionLemmas.{some_step}
use Rattle.hunk_core.proofs.FaultSteps.{pass}
use Rattle.context_form.specs.declared.range.Stated.{Stated}
use Rattle.context_form.specs.Ranges.{before_range, behind_range, numbers_at, unblanked, spaced_at, is_bad_range, is_too_large, stated, checked, from_numbers, range_line, most, is_count, is_count_by}
use Rattle.context_form.specs.Openings.{opens_old}
use Rattle.context_form.specs.Parts.{mark_at}
use Rattle.context_form.specs.Grammar.{SpellsSpaced, SpellsNumbers, SpellsRange, stated_as}
use Rattle.context_form.proofs.Spaced.{StopsSpaced, spaced-again, read_as, spaced_form, spaced_read, IsTaken, small-taken, one-same}

-- ---- steps
-- ---- the numbers

pub closed-ok : (r : NumberRange) (o : Option (List ℕ)) (q : NumberRange) → (o >>= λ rest. Some r) ≡ Some q → (rest : List ℕ) × (o ≡ Some rest) × (r ≡ q)
closed-ok r None q e = absurd cc
closed-ok r (Some rest) q e = (rest, refl, cc)

pub stops-behind : (side : Side) (rest : List ℕ) → StopsSpaced (behind_range side ++ rest)
stops-behind Forward rest = record { digit = refl; blank = refl; comma = λ n. refl }
stops-behind Reversed rest = record { digit = refl; blank = refl; comma = λ n. refl }

-- one number, or two
abbrev pub one_by : Option ℕ → Bool
one_by None = true
one_by (Some n) = false

abbrev pub is_one : Stated → Bool
is_one s = one_by s.count

-- what the numbers of a line were read from
record TakesNumbers (side : Side) (line : List ℕ) (r : NumberRange) : Type 0 where
  text : List ℕ
  rest : List ℕ
  parts : line ≡ before_range side ++ (text ++ (behind_range side ++ rest))
  spelled : SpellsSpaced text r.is_single r.first r.last
  turned : r.is_turned ≡ ltb r.last r.first

pub join_parts : (line a first b second c rest : List ℕ) → line ≡ a ++ first → first ≡ b ++ second → second ≡ c ++ rest → line ≡ a ++ (b ++ (c ++ rest))
join_parts line a first b second c rest e1 e2 e3 = rw (e1, e2, e3) refl

numbers-one : (side : Side) (line : List ℕ) (r : NumberRange) → numbers_at side line ≡ Some r → r.is_single ≡ true → r.last ≡ r.first
unfolding numbers_at
numbers-one side line r e =
    let a = some_step (after (before_range side) line) _ r e in
    let b = some_step (spaced_at a.0) _ r a.2 in
    let c = closed-ok b.0.0 (after (behind_range side) b.0.1) r b.2 in
    let f = spaced_form a.0 b.0 b.1 in
    subst (λ (q : NumberRange). q.is_single ≡ true → q.last ≡ q.first) (sym f.read ∙ c.2) (one-same f.single f.first f.last)

numbers-take : (side : Side) (line : List ℕ) (r : NumberRange) → numbers_at side line ≡ Some r → r.first < 2 ^ 32 → r.last < 2 ^ 32 → TakesNumbers side line r
unfolding numbers_at
numbers-take side line r e small small2 =
    let a = some_step (after (before_range side) line) _ r e in
    let b = some_step (spaced_at a.0) _ r a.2 in
    let c = closed-ok b.0.0 (after (behind_range side) b.0.1) r b.2 in
    let f = spaced_form a.0 b.0 b.1 in
    let same : read_as f.single f.first f.last ≡ r = sym f.read ∙ c.2 in
    let t = small-taken f.text f.single f.first f.last f.spelled (subst (λ (q : NumberRange). q.first < 2 ^ 32) (sym same) small) (subst (λ (q : NumberRange). q.last < 2 ^ 32) (sym same) small2) in
    let taken : IsTaken f.text r = subst (IsTaken f.text) same t in
    record {
      text = f.text;
      rest = c.0;
      parts = join_parts line (before_range side) a.0 f.text b.0.1 (behind_range side) c.0 (after-takes (before_range side) line a.0 a.1) f.parts (after-takes (behind_range side) b.0.1 c.0 c.1);
      spelled = taken.0;
      turned = taken.1;
    }

not-below : (n : ℕ) → ltb n n ≡ false
not-below n = le-ltb n n (omega arith)

as-ranged : (text : List ℕ) (single : Bool) (first last : ℕ) → SpellsSpaced text single first last → first < 2 ^ 32 → last < 2 ^ 32 → read_as single first last ≡ ranged single first last
as-ranged text true first last s small small2 = let m : min first (2 ^ 32) ≡ first = omega arith in rw (s.0, m, not-below first) refl
as-ranged text false first last s small small2 =
    let m : min first (2 ^ 32) ≡ first = omega arith in
    let k : min last (2 ^ 32) ≡ last = omega arith in
    rw (m, k) refl

numbers-again : (side : Side) (line text rest : List ℕ) (single : Bool) (first last : ℕ) → line ≡ before_range side ++ (text ++ (behind_range side ++ rest)) → SpellsSpaced text single first last → first < 2 ^ 32 → last < 2 ^ 32
    → numbers_at side line ≡ Some (ranged single first last)
unfolding numbers_at
numbers-again side line text rest single first last parts spelled small small2 =
    rw (
      parts,
      after-again (before_range side) (text ++ (behind_range side ++ rest)),
      spaced_read text single first last (behind_range side ++ rest) spelled (stops-behind side rest),
      after-again (behind_range side) rest,
    ) (ap (λ (q : NumberRange). Some q) (as-ranged text single first last spelled small small2))

-- ---- the tests

-- what a range passed
record Passes (least : ℕ) (r : NumberRange) (s : Stated) : Type 0 where
  good : is_bad_range r ≡ false
  fits : is_too_large r ≡ false
  order : least ≤ r.first
  same : stated r ≡ s

checked-passes : (least : ℕ) (r : NumberRange) (s : Stated) → checked least r ≡ Ok s → Passes least r s
checked-passes least r s e =
    let a = pass (is_bad_range r) kinds.Range _ s e in
    let b = pass (is_too_large r) kinds.NumberTooLarge _ s a.1 in
    let c = pass (ltb r.first least) kinds.HunkOrder (Ok (stated r)) s b.1 in
    record { good = a.0; fits = b.0; order = ltb-false r.first least c.0; same = cc }

from_some : (least : ℕ) (o : Option NumberRange) (s : Stated) → from_numbers least o ≡ Ok s → (r : NumberRange) × (o ≡ Some r) × (checked least r ≡ Ok s)
from_some least None s e = absurd cc
from_some least (Some r) s e = (r, refl, e)

abbrev made : ℕ → ℕ → Bool → Bool → NumberRange
made first last single turned = record { first = first; last = last; is_single = single; is_turned = turned }

-- what is known of a range that was read and passed the tests
pub record Known (side : Side) (least : ℕ) (line : List ℕ) (s : Stated) : Type 0 where
  pub spelled : (n : ℕ) → is_count s n ≡ true → SpellsRange side line (is_one s) s.start n
  pub same : (n : ℕ) → is_count s n ≡ true → s ≡ stated_as (is_one s) s.start n
  pub order : least ≤ s.start
  pub many : (count : ℕ) → s.count ≡ Some count → 0 < count

known-one : (side : Side) (least : ℕ) (line : List ℕ) (first last : ℕ) (turned : Bool) → numbers_at side line ≡ Some (made first last true turned) → last ≡ first → ltb 4294967295 first ≡ false → least ≤ first → Known side least line (record { start = first; count = None })
known-one side least line first last turned read one fits order =
    let small : first < 2 ^ 32 = omega (arith, ltb-false 4294967295 first fits) in
    let t = numbers-take side line (made first last true turned) read small (omega (arith, small, one)) in
    record {
      spelled = λ n is. let c = counted n is in record { text = t.text; rest = t.rest; parts = t.parts; numbers = (t.spelled.1, c.0, c.1) };
      same = λ n is. refl;
      order = order;
      many = λ count e. absurd cc;
    }
  where
    counted : (n : ℕ) → is_count_by first None n ≡ true → (n < 2) × (first ≡ 0 → n ≡ 0)
    counted n is =
        elim (chosen (eqb first 0) (eqb n 0) (ltb n 2) true is) [
          | inl start ↦ (let none = eqb-true n 0 start.1 in (omega (arith, none), λ _. none))
          | inr some ↦ (ltb-true n 2 some.1, λ z. absurd (eqb-false first 0 some.0 z))
        ]

known-two : (side : Side) (least : ℕ) (line : List ℕ) (first last : ℕ) (turned : Bool) → numbers_at side line ≡ Some (made first last false turned) → (turned || eqb first 0) ≡ false → ltb 4294967295 (first + ((last - first) + 1)) ≡ false → least ≤ first
    → Known side least line (record { start = first; count = Some ((last - first) + 1) })
known-two side least line first last turned read good fits order =
    let g = or_parts turned (eqb first 0) good in
    let ne = eqb-false first 0 g.1 in
    let low : first + ((last - first) + 1) ≤ 4294967295 = ltb-false 4294967295 (first + ((last - first) + 1)) fits in
    let t = numbers-take side line (made first last false turned) read (omega (arith, low)) (omega (arith, low)) in
    let le : first ≤ last = ltb-false last first (sym t.turned ∙ g.0) in
    record {
      spelled = λ n is. let same : n ≡ (last - first) + 1 = eqb-true n ((last - first) + 1) is in record { text = t.text; rest = t.rest; parts = t.parts; numbers = (t.spelled.0, t.spelled.1, last, t.spelled.4, t.spelled.2, t.spelled.3, omega (arith, ne), le, omega (arith, same, le)) };
      same = λ n is. let same : n ≡ (last - first) + 1 = eqb-true n ((last - first) + 1) is in rw same refl;
      order = order;
      many = λ count e. let is : (last - first) + 1 ≡ count = cc in omega (arith, is);
    }

by_single : (side : Side) (least : ℕ) (line : List ℕ) (first last : ℕ) (single turned : Bool) → numbers_at side line ≡ Some (made first last single turned) → is_bad_range (made first last single turned) ≡ false → is_too_large (made first last single turned) ≡ false → least ≤ first
    → Known side least line (stated (made first last single turned))
by_single side least line first last true turned read good fits order = known-one side least line first last turned read (numbers-one side line (made first last true turned) read refl) fits order
by_single side least line first last false turned read good fits order = known-two side least line first last turned read good fits order

pub line-known : (side : Side) (least : ℕ) (line : List ℕ) (s : Stated) → range_line side least line ≡ Ok s → Known side least line s
line-known side least line s e =
    let a = from_some least (numbers_at side line) s e in
    let r = a.0 in
    let p = checked-passes least r s a.2 in
    subst (Known side least line) p.same (by_single side least line r.first r.last r.is_single r.is_turned a.1 p.good p.fits p.order)

-- ---- and back

passed : (least : ℕ) (r : NumberRange) → is_bad_range r ≡ false → is_too_large r ≡ false → ltb r.first least ≡ false → checked least r ≡ Ok (stated r)
passed least r a b c = rw (a, b, c) refl

from_read : (side : Side) (least : ℕ) (line : List ℕ) (r : NumberRange) → numbers_at side line ≡ Some r → range_line side least line ≡ checked least r
from_read side least line r e = ap (from_numbers least) e

pub line-again : (side : Side) (least : ℕ) (line : List ℕ) (single : Bool) (start n : ℕ) → SpellsRange side line single start n → start + n < 2 ^ 32 → least ≤ start → range_line side least line ≡ Ok (stated_as single start n)
line-again side least line true start n s fits order =
    let low : ltb start least ≡ false = le-ltb start least order in
    let small : ltb 4294967295 start ≡ false = le-ltb 4294967295 start (omega (arith, fits)) in
    from_read side least line (ranged true start start) (numbers-again side line s.text s.rest true start start s.parts (refl, s.numbers.0) (omega (arith, fits)) (omega (arith, fits)))
    ∙ passed least (ranged true start start) refl small low
line-again side least line false start n s fits order =
    let m = s.numbers in
    let last = m.2 in
    let low : ltb start least ≡ false = le-ltb start least order in
    let later : ltb last start ≡ false = le-ltb last start m.7 in
    let begins : eqb start 0 ≡ false = ne_eqb start 0 (λ z. absurd (omega (arith, z, m.6))) in
    let count : (last - start) + 1 ≡ n = omega (arith, m.7, m.8) in
    let small : ltb 4294967295 (start + ((last - start) + 1)) ≡ false = le-ltb 4294967295 (start + ((last - start) + 1)) (omega (arith, fits, count)) in
    let good : is_bad_range (ranged false start last) ≡ false = rw (later, begins) refl in
    from_read side least line (ranged false start last) (numbers-again side line s.text s.rest false start last s.parts (m.0, m.1, m.4, m.5, m.3) (omega (arith, fits)) (omega (arith, fits, m.8)))
    ∙ passed least (ranged false start last) good small low ∙ ap (λ k. Ok (record { start = start; count = Some k })) count

eqb-same : (n m : ℕ) → n ≡ m → eqb n m ≡ true
eqb-same n m e = grind arith

-- how many lines are read of a part with so many
pub most-again : (side : Side) (line : List ℕ) (single : Bool) (start n : ℕ) → SpellsRange side line single start n → 0 < n → most (stated_as single start n) ≡ n
most-again side line true start n s some = by (eqb start 0) refl
  where
    by : (b : Bool) → eqb start 0 ≡ b → cond b 0 1 ≡ n
    by true is = absurd (omega (arith, some, s.numbers.2 (eqb-true start 0 is)))
    by false is = omega (arith, some, s.numbers.1)
most-again side line false start n s some = refl

pub count-again : (side : Side) (line : List ℕ) (single : Bool) (start n : ℕ) → SpellsRange side line single start n → is_count (stated_as single start n) n ≡ true
count-again side line true start n s = by (eqb start 0) refl
  where
    by : (b : Bool) → eqb start 0 ≡ b → cond b (eqb n 0) (ltb n 2) ≡ true
    by true is = eqb-same n 0 (s.numbers.2 (eqb-true start 0 is))
    by false is = lt-ltb n 2 s.numbers.1
count-again side line false start n s = eqb-same n n refl

-- ---- how a range line begins

first-again : (side : Side) (line : List ℕ) (text rest : List ℕ) → line ≡ before_range side ++ (text ++ (behind_range side ++ rest)) → after (before_range side) line ≡ Some (text ++ (behind_range side ++ rest))
first-again side line text rest e = ap (after (before_range side)) e ∙ after-again (before_range side) (text ++ (behind_range side ++ rest))

pub dashes-again : (line : List ℕ) (single : Bool) (start n : ℕ) → SpellsRange Reversed line single start n → is_some (after (before_range Reversed) line) ≡ true
dashes-again line single start n s = rw (first-again Reversed line s.text s.rest s.parts) refl

quiet-dashes : (bytes : List ℕ) → is_backslash (before_range Reversed ++ bytes) ≡ false
unfolding after
quiet-dashes bytes = refl

pub dashes-quiet : (line : List ℕ) (single : Bool) (start n : ℕ) → SpellsRange Reversed line single start n → is_backslash line ≡ false
dashes-quiet line single start n s = subst (λ l. is_backslash l ≡ false) (sym s.parts) (quiet-dashes (s.text ++ (behind_range Reversed ++ s.rest)))

unmarked-dashes : (bytes : List ℕ) → is_some (mark_at Forward (before_range Reversed ++ bytes)) ≡ false
unmarked-dashes bytes = refl

pub dashes-unmarked : (line : List ℕ) (single : Bool) (start n : ℕ) → SpellsRange Reversed line single start n → is_some (mark_at Forward line) ≡ false
dashes-unmarked line single start n s = subst (λ l. is_some (mark_at Forward l) ≡ false) (sym s.parts) (unmarked-dashes (s.text ++ (behind_range Reversed ++ s.rest)))

numeral-first : (text rest : List ℕ) (single : Bool) (start n : ℕ) → SpellsNumbers text single start n → NoDigitFirst rest → is_some (number_at (unblanked (text ++ rest))) ≡ true
numeral-first text rest true start n s stops = rw (spaced-again text start rest s.0 stops) refl
numeral-first text rest false start n s stops = rw (s.3, append_assoc s.0 (44 ∷ s.1) rest, spaced-again s.0 start (44 ∷ (s.1 ++ rest)) s.4 refl) refl

pub stars-again : (line : List ℕ) (single : Bool) (start n : ℕ) → SpellsRange Forward line single start n → opens_old line ≡ true
stars-again line single start n s = rw (first-again Forward line s.text s.rest s.parts) (numeral-first s.text (behind_range Forward ++ s.rest) single start n s.numbers refl)
