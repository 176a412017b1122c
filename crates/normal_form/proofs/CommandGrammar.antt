-- A command that is read is spelled so, and one that is spelled so is read.
use Rattle.std.proofs.Common.{◌≡◌, ℕ, ◌+◌, ◌^◌, ◌<◌, Bool, true, false, not, eqb, ltb, ◌||◌, List, [], ◌∷◌, ◌++◌, Option, None, Some, Ok, refl, sym, ap, subst, ◌∙◌, arith, inl, inr}
use Rattle.std.proofs.lemmas.Bool.{eqb-true, eqb-false, ltb-false, le-ltb, ne_eqb, or_parts}
use Rattle.hunk_core.specs.declared.BadKind.TheVariants as kinds
use Rattle.hunk_core.specs.declared.Side.TheVariants.{Forward, Reversed}
use Rattle.line_list.proofs.Choices.{chosen, some_is}
use Rattle.num_text.specs.declared.range.NumberRange.{NumberRange}
use Rattle.num_text.specs.NumberRanges.{range_at, SpellsRange}
use Rattle.num_text.proofs.RangeGrammar.{range-takes, StopsRange, ranged, range-again, stops-nil, range-single}
use Rattle.hunk_core.specs.declared.command.Action.{Action}
use Rattle.hunk_core.specs.Rules.{is_too_large}
use Rattle.hunk_core.proofs.OptionLemmas.{some_step}
use Rattle.hunk_core.proofs.FaultSteps.{pass}
use Rattle.hunk_core.proofs.CommandLemmas.{action-takes, action-again, stops-letter}
use Rattle.normal_form.specs.declared.command.Parts.{Parts}
use Rattle.normal_form.specs.declared.command.Command.{Command}
use Rattle.hunk_core.specs.Letters.{action_at, is_line_end}
use Rattle.normal_form.specs.Commands.{whole, parts_at, takes_lines, is_bad_range, size, command, placed, checked, from_parts, opening}
use Rattle.hunk_core.specs.Letters.{letter}
use Rattle.normal_form.specs.Grammar.{SpellsSpan, SpellsCommand, AreFair}

-- ---- steps
-- ---- the letter
pub stops-end : (rest : List ℕ) → is_line_end rest ≡ true → StopsRange rest
stops-end [] e = stops-nil
stops-end (b ∷ []) e = let ten : b ≡ 10 = eqb-true b 10 e in subst (λ k. StopsRange (k ∷ [])) (sym ten) (record { digit = refl; comma = λ n. refl })
stops-end (b ∷ c ∷ rest) e = absurd cc

-- ---- the parts

pub record TakesParts (line : List ℕ) (p : Parts) : Type 0 where
  pub old : List ℕ
  pub new : List ℕ
  pub rest : List ℕ
  pub parts : line ≡ old ++ letter p.action ∷ (new ++ rest)
  pub ends : is_line_end rest ≡ true
  pub old_range : SpellsRange old p.old.is_single p.old.first p.old.last
  pub old_turned : p.old.is_turned ≡ ltb p.old.last p.old.first
  pub new_range : SpellsRange new p.new.is_single p.new.first p.new.last
  pub new_turned : p.new.is_turned ≡ ltb p.new.last p.new.first

-- no number is above the greatest
record AreSmall (p : Parts) : Type 0 where
  old_first : p.old.first < 2 ^ 32
  old_last : p.old.last < 2 ^ 32
  new_first : p.new.first < 2 ^ 32
  new_last : p.new.last < 2 ^ 32

abbrev pub made : NumberRange → Action → NumberRange → Parts
made old action new = record { old = old; action = action; new = new }

pub whole-ok : (old : NumberRange) (action : Action) (new : NumberRange) (rest : List ℕ) (p : Parts) → whole old action new rest ≡ Some p → (is_line_end rest ≡ true) × (made old action new ≡ p)
whole-ok old action new rest p e =
    elim (chosen (is_line_end rest) (Some (made old action new)) None (Some p) e) [
      | inl ends ↦ (ends.0, some_is (made old action new) p (Some (made old action new)) refl ends.1)
      | inr not_there ↦ absurd cc
    ]

pub join_parts : (line old a : List ℕ) (n : ℕ) (b new rest : List ℕ) → line ≡ old ++ a → a ≡ n ∷ b → b ≡ new ++ rest → line ≡ old ++ n ∷ (new ++ rest)
join_parts line old a n b new rest e1 e2 e3 = rw (e1, e2, e3) refl

parts-takes : (line : List ℕ) (p : Parts) → parts_at line ≡ Some p → AreSmall p → TakesParts line p
unfolding parts_at
parts-takes line p e small =
    let a = some_step (range_at line) _ p e in
    let b = some_step (action_at a.0.1) _ p a.2 in
    let d = some_step (range_at b.0.1) _ p b.2 in
    let w = whole-ok a.0.0 b.0.0 d.0.0 d.0.1 p d.2 in
    let fit : AreSmall (made a.0.0 b.0.0 d.0.0) = subst AreSmall (sym w.1) small in
    let old = range-takes line a.0 a.1 fit.old_first fit.old_last in
    let new = range-takes b.0.1 d.0 d.1 fit.new_first fit.new_last in
    subst (TakesParts line) w.1 (record {
      old = old.text;
      new = new.text;
      rest = d.0.1;
      parts = join_parts line old.text a.0.1 (letter b.0.0) b.0.1 new.text d.0.1 old.parts (action-takes a.0.1 b.0 b.1) new.parts;
      ends = w.0;
      old_range = old.spelled;
      old_turned = old.turned;
      new_range = new.spelled;
      new_turned = new.turned;
    })

parts-again : (line old new rest : List ℕ) (action : Action) (s t : Bool) (a b m n : ℕ) → line ≡ old ++ letter action ∷ (new ++ rest) → is_line_end rest ≡ true → SpellsRange old s a b → SpellsRange new t m n → a < 2 ^ 32 → b < 2 ^ 32 → m < 2 ^ 32 → n < 2 ^ 32
    → parts_at line ≡ Some (made (ranged s a b) action (ranged t m n))
unfolding parts_at
parts-again line old new rest action s t a b m n parts ends old_range new_range sa sb sm sn =
    rw (
      parts,
      range-again old s a b (letter action ∷ (new ++ rest)) old_range sa sb (stops-letter action (new ++ rest)),
      action-again action (new ++ rest),
      range-again new t m n rest new_range sm sn (stops-end rest ends),
      ends,
    ) refl

-- ---- one range

range-small : (r : NumberRange) (lines : Bool) → is_bad_range r lines ≡ false → (text : List ℕ) → SpellsRange text r.is_single r.first r.last → r.is_turned ≡ ltb r.last r.first → SpellsSpan text lines r.first (size r lines)
range-small r true e text spelled turned =
    let g = or_parts r.is_turned (eqb r.first 0) e in
    let le = ltb-false r.last r.first (sym turned ∙ g.0) in
    let ne = eqb-false r.first 0 g.1 in
    (r.is_single, r.last, spelled, omega arith, omega (arith, le), omega (arith, le))
range-small r false e text spelled turned = by r.is_single refl spelled
  where
    by : (s : Bool) → r.is_single ≡ s → SpellsRange text s r.first r.last → SpellsSpan text false r.first 0
    by true is h = (h.1, refl)
    by false is h = absurd (let bad : not r.is_single ≡ true = rw is refl in cc)

-- a span comes from a range
pub record FromRange (text : List ℕ) (lines : Bool) (start count : ℕ) : Type 0 where
  pub single : Bool
  pub last : ℕ
  pub spelled : SpellsRange text single start last
  pub good : is_bad_range (ranged single start last) lines ≡ false
  pub sized : size (ranged single start last) lines ≡ count
  pub small : start + count < 2 ^ 32 → last < 2 ^ 32

span-range : (text : List ℕ) (lines : Bool) (start count : ℕ) → SpellsSpan text lines start count → FromRange text lines start count
span-range text true start count s =
    let later : ltb s.1 start ≡ false = le-ltb s.1 start s.4 in
    let begins : eqb start 0 ≡ false = ne_eqb start 0 (λ z. absurd (omega (arith, z, s.3))) in
    record { single = s.0; last = s.1; spelled = s.2; good = rw (later, begins) refl; sized = omega (arith, s.4, s.5); small = λ fits. omega (arith, s.5, fits) }
span-range text false start count s = record { single = true; last = start; spelled = (refl, s.0); good = refl; sized = sym s.1; small = λ fits. omega (arith, fits) }

-- ---- the whole line

large : (start count : ℕ) → is_too_large start count ≡ false → start + count < 2 ^ 32
large start count e = omega (arith, ltb-false 4294967295 (start + count) e)

from_some : (least : ℕ) (o : Option Parts) (c : Command) → from_parts least o ≡ Ok c → (p : Parts) × (o ≡ Some p) × (checked least p ≡ Ok c)
from_some least None c e = absurd cc
from_some least (Some p) c e = (p, refl, e)

-- what a command passed
pub record Passes (least : ℕ) (p : Parts) (c : Command) : Type 0 where
  pub old : is_bad_range p.old (takes_lines p.action Forward) ≡ false
  pub new : is_bad_range p.new (takes_lines p.action Reversed) ≡ false
  pub same : command p ≡ c
  pub fair : AreFair least c

checked-passes : (least : ℕ) (p : Parts) (c : Command) → checked least p ≡ Ok c → Passes least p c
checked-passes least p c e =
    let p1 = pass (is_bad_range p.old (takes_lines p.action Forward) || is_bad_range p.new (takes_lines p.action Reversed)) kinds.Range (placed least (command p)) c e in
    let q = command p in
    let p2 = pass (is_too_large q.old_start q.old_count || is_too_large q.new_start q.new_count) kinds.NumberTooLarge _ c p1.1 in
    let p3 = pass (ltb q.old_start least) kinds.HunkOrder (Ok q) c p2.1 in
    let same : q ≡ c = cc in
    let bad = or_parts (is_bad_range p.old (takes_lines p.action Forward)) (is_bad_range p.new (takes_lines p.action Reversed)) p1.0 in
    let big = or_parts (is_too_large q.old_start q.old_count) (is_too_large q.new_start q.new_count) p2.0 in
    record { old = bad.0; new = bad.1; same = same; fair = subst (AreFair least) same (record { fits = record { old = large q.old_start q.old_count big.0; new = large q.new_start q.new_count big.1 }; order = ltb-false q.old_start least p3.0 }) }

last-small : (r : NumberRange) (lines : Bool) → is_bad_range r lines ≡ false → (r.is_single ≡ true → r.last ≡ r.first) → r.first + size r lines < 2 ^ 32 → (r.first < 2 ^ 32) × (r.last < 2 ^ 32)
last-small r true e one fits = (omega arith, omega arith)
last-small r false e one fits =
    let is : r.is_single ≡ true = by r.is_single e in
    let same = one is in
    (omega arith, omega (arith, same))
  where
    by : (s : Bool) → not s ≡ false → s ≡ true
    by true h = refl
    by false h = absurd cc

parts-single : (line : List ℕ) (p : Parts) → parts_at line ≡ Some p → (p.old.is_single ≡ true → p.old.last ≡ p.old.first) × (p.new.is_single ≡ true → p.new.last ≡ p.new.first)
unfolding parts_at
parts-single line p e =
    let a = some_step (range_at line) _ p e in
    let b = some_step (action_at a.0.1) _ p a.2 in
    let d = some_step (range_at b.0.1) _ p b.2 in
    let w = whole-ok a.0.0 b.0.0 d.0.0 d.0.1 p d.2 in
    subst (λ (q : Parts). (q.old.is_single ≡ true → q.old.last ≡ q.old.first) × (q.new.is_single ≡ true → q.new.last ≡ q.new.first)) w.1 (range-single line a.0 a.1, range-single b.0.1 d.0 d.1)

pub opening-takes : (least : ℕ) (line : List ℕ) (c : Command) → opening least line ≡ Ok c → SpellsCommand line c × AreFair least c
opening-takes least line c e =
    let a = from_some least (parts_at line) c e in
    let p = a.0 in
    let q = checked-passes least p c a.2 in
    let single = parts-single line p a.1 in
    let fair : AreFair least (command p) = subst (AreFair least) (sym q.same) q.fair in
    let old_small = last-small p.old (takes_lines p.action Forward) q.old single.0 fair.fits.old in
    let new_small = last-small p.new (takes_lines p.action Reversed) q.new single.1 fair.fits.new in
    let t = parts-takes line p a.1 (record { old_first = old_small.0; old_last = old_small.1; new_first = new_small.0; new_last = new_small.1 }) in (
      subst (SpellsCommand line) q.same (record {
        old = t.old;
        new = t.new;
        rest = t.rest;
        parts = t.parts;
        ends = t.ends;
        old_span = range-small p.old (takes_lines p.action Forward) q.old t.old t.old_range t.old_turned;
        new_span = range-small p.new (takes_lines p.action Reversed) q.new t.new t.new_range t.new_turned;
      }),
      q.fair,
    )

not-large : (start count : ℕ) → start + count < 2 ^ 32 → is_too_large start count ≡ false
not-large start count lt = le-ltb 4294967295 (start + count) (omega (arith, lt))

abbrev pub command_is : Action → ℕ → ℕ → ℕ → ℕ → Command
command_is action a b m n = record { action = action; old_start = a; old_count = b; new_start = m; new_count = n }

placed-again : (least : ℕ) (c : Command) → AreFair least c → placed least c ≡ Ok c
placed-again least c fair =
    let order : ltb c.old_start least ≡ false = le-ltb c.old_start least fair.order in
    rw (not-large c.old_start c.old_count fair.fits.old, not-large c.new_start c.new_count fair.fits.new, order) refl

checked-again : (least : ℕ) (p : Parts) (c : Command) → is_bad_range p.old (takes_lines p.action Forward) ≡ false → is_bad_range p.new (takes_lines p.action Reversed) ≡ false → command p ≡ c → AreFair least c → checked least p ≡ Ok c
checked-again least p c old new same fair = rw (old, new) (ap (placed least) same ∙ placed-again least c fair)

pub opening-again : (least : ℕ) (line : List ℕ) (c : Command) → SpellsCommand line c → AreFair least c → opening least line ≡ Ok c
opening-again least line c s fair =
    let old = span-range s.old (takes_lines c.action Forward) c.old_start c.old_count s.old_span in
    let new = span-range s.new (takes_lines c.action Reversed) c.new_start c.new_count s.new_span in
    let read = parts-again line s.old s.new s.rest c.action old.single new.single c.old_start old.last c.new_start new.last s.parts s.ends old.spelled new.spelled
    (omega (arith, fair.fits.old)) (old.small fair.fits.old) (omega (arith, fair.fits.new)) (new.small fair.fits.new) in
    let p : Parts = made (ranged old.single c.old_start old.last) c.action (ranged new.single c.new_start new.last) in
    let counted : command p ≡ c =
    ap (λ n. command_is c.action c.old_start n c.new_start (size (ranged new.single c.new_start new.last) (takes_lines c.action Reversed))) old.sized
    ∙ ap (λ n. command_is c.action c.old_start c.old_count c.new_start n) new.sized in
    ap (from_parts least) read ∙ checked-again least p c old.good new.good counted fair

pub opening-is : (least : ℕ) (line : List ℕ) (c : Command) → opening least line ≡ Ok c → (p : Parts) × (parts_at line ≡ Some p)
opening-is least line c e = let a = from_some least (parts_at line) c e in (a.0, a.1)
