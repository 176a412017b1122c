-- A command that is read is spelled so, and one that is spelled so is read.
use Rattle.std.proofs.Common.{◌≡◌, ℕ, ◌^◌, ◌<◌, ◌≤◌, Bool, true, false, not, cond, eqb, ltb, List, ◌∷◌, ◌++◌, Option, None, Some, Ok, Err, refl, sym, ap, subst, ◌∙◌, arith, inl, inr}
use Rattle.std.proofs.lemmas.Bool.{eqb-false, ltb-true, ltb-false, le-ltb, lt-ltb, ne_eqb, or_parts}
use Rattle.hunk_core.specs.declared.BadKind.{BadKind}
use Rattle.hunk_core.specs.declared.BadKind.TheVariants as kinds
use Rattle.line_list.proofs.Choices.{chosen, some_is}
use Rattle.num_text.specs.declared.range.NumberRange.{NumberRange}
use Rattle.num_text.specs.NumberRanges.{range_at, SpellsRange}
use Rattle.num_text.proofs.RangeGrammar.{range-takes, ranged, range-again, range-single}
use Rattle.hunk_core.specs.declared.command.Action.{Action}
use Rattle.hunk_core.specs.declared.command.Action.TheVariants.{Add, Change, Delete}
use Rattle.hunk_core.specs.Letters.{action_at, is_line_end, letter}
use Rattle.hunk_core.proofs.OptionLemmas.{some_step}
use Rattle.hunk_core.proofs.FaultSteps.{pass}
use Rattle.hunk_core.proofs.CommandLemmas.{action-takes, action-again, stops-letter}
use Rattle.ed_form.specs.declared.command.Command.{Command}
use Rattle.ed_form.specs.declared.command.Heading.{Heading}
use Rattle.ed_form.specs.Commands.{whole, parts_at, is_command, is_bad_range, start, heading, is_too_large, placed, checked, from_parts, opening}
use Rattle.ed_form.specs.Grammar.{SpellsAddresses, SpellsCommand}

-- ---- steps
must : {A : Type 0} (b : Bool) (d : BadKind) (x q : A) → cond b (Ok x) (Err d) ≡ Ok q → (b ≡ true) × (x ≡ q)
must true d x q e = (refl, cc)
must false d x q e = absurd cc

-- ---- the letter
-- ---- the parts

abbrev pub made : NumberRange → Action → Command
made range action = record { range = range; action = action }

pub record TakesParts (line : List ℕ) (c : Command) : Type 0 where
  pub text : List ℕ
  pub rest : List ℕ
  pub parts : line ≡ text ++ letter c.action ∷ rest
  pub ends : is_line_end rest ≡ true
  pub spelled : SpellsRange text c.range.is_single c.range.first c.range.last
  pub turned : c.range.is_turned ≡ ltb c.range.last c.range.first

pub whole-ok : (range : NumberRange) (action : Action) (rest : List ℕ) (c : Command) → whole range action rest ≡ Some c → (is_line_end rest ≡ true) × (made range action ≡ c)
whole-ok range action rest c e =
    elim (chosen (is_line_end rest) (Some (made range action)) None (Some c) e) [
      | inl ends ↦ (ends.0, some_is (made range action) c (Some (made range action)) refl ends.1)
      | inr not_there ↦ absurd cc
    ]

join_parts : (line text a : List ℕ) (n : ℕ) (rest : List ℕ) → line ≡ text ++ a → a ≡ n ∷ rest → line ≡ text ++ n ∷ rest
join_parts line text a n rest e1 e2 = rw (e1, e2) refl

parts-takes : (line : List ℕ) (c : Command) → parts_at line ≡ Some c → c.range.first < 2 ^ 32 → c.range.last < 2 ^ 32 → TakesParts line c
unfolding parts_at
parts-takes line c e first last =
    let a = some_step (range_at line) _ c e in
    let b = some_step (action_at a.0.1) _ c a.2 in
    let w = whole-ok a.0.0 b.0.0 b.0.1 c b.2 in
    let range = range-takes line a.0 a.1 (subst (λ (q : Command). q.range.first < 2 ^ 32) (sym w.1) first) (subst (λ (q : Command). q.range.last < 2 ^ 32) (sym w.1) last) in
    subst (TakesParts line) w.1 (record {
      text = range.text;
      rest = b.0.1;
      parts = join_parts line range.text a.0.1 (letter b.0.0) b.0.1 range.parts (action-takes a.0.1 b.0 b.1);
      ends = w.0;
      spelled = range.spelled;
      turned = range.turned;
    })

parts-single : (line : List ℕ) (c : Command) → parts_at line ≡ Some c → c.range.is_single ≡ true → c.range.last ≡ c.range.first
unfolding parts_at
parts-single line c e =
    let a = some_step (range_at line) _ c e in
    let b = some_step (action_at a.0.1) _ c a.2 in
    let w = whole-ok a.0.0 b.0.0 b.0.1 c b.2 in
    subst (λ (q : Command). q.range.is_single ≡ true → q.range.last ≡ q.range.first) w.1 (range-single line a.0 a.1)

parts-again : (line text rest : List ℕ) (action : Action) (s : Bool) (a b : ℕ) → line ≡ text ++ letter action ∷ rest → is_line_end rest ≡ true → SpellsRange text s a b → a < 2 ^ 32 → b < 2 ^ 32 → parts_at line ≡ Some (made (ranged s a b) action)
unfolding parts_at
parts-again line text rest action s a b parts ends spelled sa sb =
    rw (
      parts,
      range-again text s a b (letter action ∷ rest) spelled sa sb (stops-letter action rest),
      action-again action rest,
      ends,
    ) refl

-- ---- the tests

from_some : (below : ℕ) (o : Option Command) (h : Heading) → from_parts below o ≡ Ok h → (c : Command) × (o ≡ Some c) × (checked below c ≡ Ok h)
from_some below None h e = absurd cc
from_some below (Some c) h e = (c, refl, e)

-- what a command passed
pub record Passes (below : ℕ) (c : Command) (h : Heading) : Type 0 where
  pub good : is_bad_range c.action c.range ≡ false
  pub same : heading c ≡ h
  pub small : h.first < 2 ^ 32
  pub small_last : h.last < 2 ^ 32
  pub order : h.last < below

checked-passes : (below : ℕ) (c : Command) (h : Heading) → checked below c ≡ Ok h → Passes below c h
checked-passes below c h e =
    let p1 = pass (is_bad_range c.action c.range) kinds.Range (placed below (heading c)) h e in
    let q = heading c in
    let p2 = pass (is_too_large q) kinds.NumberTooLarge _ h p1.1 in
    let p3 = must (ltb q.last below) kinds.EdOrder q h p2.1 in
    let large = or_parts (ltb 4294967295 q.first) (ltb 4294967295 q.last) p2.0 in
    let first : q.first < 2 ^ 32 = omega (arith, ltb-false 4294967295 q.first large.0) in
    let last : q.last < 2 ^ 32 = omega (arith, ltb-false 4294967295 q.last large.1) in
    record {
      good = p1.0;
      same = p3.1;
      small = subst (λ (x : Heading). x.first < 2 ^ 32) p3.1 first;
      small_last = subst (λ (x : Heading). x.last < 2 ^ 32) p3.1 last;
      order = subst (λ (x : Heading). x.last < below) p3.1 (ltb-true q.last below p3.0);
    }

not_not : (b : Bool) → not b ≡ false → b ≡ true
not_not true e = refl
not_not false e = absurd cc

-- the addresses of a command that passed the tests
addresses-of : (action : Action) (range : NumberRange) (text : List ℕ) → is_bad_range action range ≡ false → SpellsRange text range.is_single range.first range.last → range.is_turned ≡ ltb range.last range.first → SpellsAddresses action text (start action range) range.last
addresses-of Add range text good spelled turned =
    let one : SpellsRange text true range.first range.last = subst (λ s. SpellsRange text s range.first range.last) (not_not range.is_single good) spelled in
    (rw one.0 one.1, refl)
addresses-of Change range text good spelled turned =
    let g = or_parts range.is_turned (eqb range.first 0) good in
    let le = ltb-false range.last range.first (sym turned ∙ g.0) in
    let ne = eqb-false range.first 0 g.1 in
    (range.is_single, spelled, omega arith, omega (arith, le))
addresses-of Delete range text good spelled turned =
    let g = or_parts range.is_turned (eqb range.first 0) good in
    let le = ltb-false range.last range.first (sym turned ∙ g.0) in
    let ne = eqb-false range.first 0 g.1 in
    (range.is_single, spelled, omega arith, omega (arith, le))

first-small : (action : Action) (range : NumberRange) → is_bad_range action range ≡ false → (range.is_single ≡ true → range.last ≡ range.first) → start action range < 2 ^ 32 → range.first < 2 ^ 32
first-small Add range good single small = let same = single (not_not range.is_single good) in omega (arith, same, small)
first-small Change range good single small = small
first-small Delete range good single small = small

abbrev Takes : ℕ → List ℕ → Heading → Type 0
Takes below line h = SpellsCommand line h.action h.first h.last × (h.last < below)

pub opening-takes : (below : ℕ) (line : List ℕ) (h : Heading) → opening below line ≡ Ok h → SpellsCommand line h.action h.first h.last × (h.last < below)
opening-takes below line h e =
    let a = from_some below (parts_at line) h e in
    let c = a.0 in
    let p = checked-passes below c h a.2 in
    let small : start c.action c.range < 2 ^ 32 = subst (λ (x : Heading). x.first < 2 ^ 32) (sym p.same) p.small in
    let last : c.range.last < 2 ^ 32 = subst (λ (x : Heading). x.last < 2 ^ 32) (sym p.same) p.small_last in
    let order : c.range.last < below = subst (λ (x : Heading). x.last < below) (sym p.same) p.order in
    let t = parts-takes line c a.1 (first-small c.action c.range p.good (parts-single line c a.1) small) last in
    subst (Takes below line) p.same (
      record {
        text = t.text;
        rest = t.rest;
        parts = t.parts;
        ends = t.ends;
        addresses = addresses-of c.action c.range t.text p.good t.spelled t.turned;
        small = small;
        small_last = last;
      },
      order,
    )

abbrev pub heading_is : Action → ℕ → ℕ → Heading
heading_is action first last = record { action = action; first = first; last = last }

-- addresses come from a range
pub record FromRange (action : Action) (text : List ℕ) (first last : ℕ) : Type 0 where
  pub single : Bool
  pub from : ℕ
  pub spelled : SpellsRange text single from last
  pub good : is_bad_range action (ranged single from last) ≡ false
  pub is : start action (ranged single from last) ≡ first
  pub small : from ≤ first

address-range : (action : Action) (text : List ℕ) (first last : ℕ) → SpellsAddresses action text first last → FromRange action text first last
address-range Add text first last s = record { single = true; from = last; spelled = (refl, s.0); good = refl; is = sym s.1; small = omega (arith, s.1) }
address-range Change text first last s =
    let later : ltb last first ≡ false = le-ltb last first s.3 in
    let begins : eqb first 0 ≡ false = ne_eqb first 0 (λ z. absurd (omega (arith, z, s.2))) in
    record { single = s.0; from = first; spelled = s.1; good = rw (later, begins) refl; is = refl; small = omega arith }
address-range Delete text first last s =
    let later : ltb last first ≡ false = le-ltb last first s.3 in
    let begins : eqb first 0 ≡ false = ne_eqb first 0 (λ z. absurd (omega (arith, z, s.2))) in
    record { single = s.0; from = first; spelled = s.1; good = rw (later, begins) refl; is = refl; small = omega arith }

placed-again : (below : ℕ) (h : Heading) → h.first < 2 ^ 32 → h.last < 2 ^ 32 → h.last < below → placed below h ≡ Ok h
placed-again below h first last order =
    let one : ltb 4294967295 h.first ≡ false = le-ltb 4294967295 h.first (omega (arith, first)) in
    let two : ltb 4294967295 h.last ≡ false = le-ltb 4294967295 h.last (omega (arith, last)) in
    let three : ltb h.last below ≡ true = lt-ltb h.last below order in
    rw (one, two, three) refl

pub opening-again : (below : ℕ) (line : List ℕ) (action : Action) (first last : ℕ) → SpellsCommand line action first last → last < below → opening below line ≡ Ok (heading_is action first last)
opening-again below line action first last s order =
    let r = address-range action s.text first last s.addresses in
    let read = parts-again line s.text s.rest action r.single r.from last s.parts s.ends r.spelled (omega (arith, r.small, s.small)) s.small_last in
    ap (from_parts below) read ∙ rw r.good (ap (λ n. placed below (heading_is action n last)) r.is ∙ placed-again below (heading_is action first last) s.small s.small_last order)

pub opening-is : (below : ℕ) (line : List ℕ) (h : Heading) → opening below line ≡ Ok h → is_command line ≡ true
opening-is below line h e = let a = from_some below (parts_at line) h e in rw a.1 refl
