-- What is wrong with a command of a normal hunk.
use Rattle.std.proofs.Common.{◌≡◌, inl, inr, ℕ, ◌+◌, ◌-◌, ◌^◌, ◌<◌, min, Bool, true, false, cond, eqb, ltb, ◌||◌, List, [], Option, None, Some, Result, Ok, Err, refl, sym, ap, subst, ◌∙◌, arith}
use Rattle.std.specs.Prelude.{is_some}
use Rattle.std.proofs.lemmas.Bool.{eqb-true, ltb-true, ltb-false, or_parts, or_cases}
use Rattle.hunk_core.specs.declared.BadKind.{BadKind}
use Rattle.hunk_core.specs.declared.BadKind.TheVariants as kinds
use Rattle.hunk_core.specs.declared.Side.TheVariants.{Forward, Reversed}
use Rattle.num_text.specs.NumberRanges.{range_at, SpellsRange}
use Rattle.hunk_core.specs.Letters.{action_at, letter}
use Rattle.normal_form.specs.declared.command.Command.{Command}
use Rattle.normal_form.specs.declared.command.Parts.{Parts}
use Rattle.normal_form.specs.Commands.{parts_at, is_command, takes_lines, is_bad_range, size, command, checked, from_parts, opening}
use Rattle.normal_form.specs.Grammar.{IsCommand}
use Rattle.normal_form.proofs.CommandGrammar.{whole-ok, join_parts, made}
use Rattle.normal_form.proofs.Words.{end-found}
use Rattle.hunk_core.specs.Rules.{is_too_large}
use Rattle.hunk_core.proofs.OptionLemmas.{some_step}
use Rattle.hunk_core.proofs.CommandLemmas.{action-takes}
use Rattle.law_faults.specs.NormalFaults.{IsBadSpan, IsLargeSpan, Breaks}
use Rattle.law_faults.proofs.NumberForms.{read_as, range_form}
use Rattle.law_faults.proofs.FailedTests.{kind_is}

-- ---- a command that was read is spelled so

record CommandForm (line : List ℕ) (p : Parts) : Type 0 where
  is : IsCommand line
  read : p ≡ made (read_as is.old_range.0 is.old_range.1 is.old_range.2) is.action (read_as is.new_range.0 is.new_range.1 is.new_range.2)

command_form : (line : List ℕ) (p : Parts) → parts_at line ≡ Some p → CommandForm line p
unfolding parts_at
command_form line p e =
    let a = some_step (range_at line) _ p e in
    let b = some_step (action_at a.0.1) _ p a.2 in
    let d = some_step (range_at b.0.1) _ p b.2 in
    let w = whole-ok a.0.0 b.0.0 d.0.0 d.0.1 p d.2 in
    let old = range_form line a.0 a.1 in
    let new = range_form b.0.1 d.0 d.1 in
    record {
      is = record {
        old = old.text;
        action = b.0.0;
        new = new.text;
        rest = d.0.1;
        parts = join_parts line old.text a.0.1 (letter b.0.0) b.0.1 new.text d.0.1 old.parts (action-takes a.0.1 b.0 b.1) new.parts;
        old_range = (old.single, old.first, old.last, old.spelled);
        new_range = (new.single, new.first, new.last, new.spelled);
        ends = end-found d.0.1 w.0;
      };
      read = sym w.1 ∙ ap (λ r. made r b.0.0 d.0.0) old.read ∙ ap (λ r. made (read_as old.single old.first old.last) b.0.0 r) new.read;
    }

one_number : (text : List ℕ) (single : Bool) (first last : ℕ) → SpellsRange text single first last → single ≡ true → last ≡ first
one_number text true first last s e = s.0
one_number text false first last s e = absurd cc

-- ---- the tests

-- the first test that fails is the one of the kind
abbrev tested : Bool → Bool → Bool → Command → Result Command BadKind
tested a b d c = cond a (Err kinds.Range) (cond b (Err kinds.NumberTooLarge) (cond d (Err kinds.HunkOrder) (Ok c)))

first_failed : (P : BadKind → Type 0) (a b d : Bool) (c : Command) (kind : BadKind) → tested a b d c ≡ Err kind → (a ≡ true → P kinds.Range) → (a ≡ false → b ≡ true → P kinds.NumberTooLarge) → (b ≡ false → d ≡ true → P kinds.HunkOrder) → P kind
first_failed P true b d c kind e f g i = subst P (kind_is kinds.Range kind e) (f refl)
first_failed P false true d c kind e f g i = subst P (kind_is kinds.NumberTooLarge kind e) (g refl refl)
first_failed P false false true c kind e f g i = subst P (kind_is kinds.HunkOrder kind e) (i refl refl)
first_failed P false false false c kind e f g i = absurd cc

bad_span : (lines single : Bool) (first last : ℕ) → is_bad_range (read_as single first last) lines ≡ true → IsBadSpan lines single first last
bad_span true true first last e = inr (let none = eqb-true (min first (2 ^ 32)) 0 e in omega arith)
bad_span true false first last e =
    elim (or_cases (ltb last first) (eqb (min first (2 ^ 32)) 0) e) [
      | inl turned ↦ inl (ltb-true last first turned)
      | inr none ↦ inr (let zero_first = eqb-true (min first (2 ^ 32)) 0 none in omega arith)
    ]
bad_span false true first last e = absurd cc
bad_span false false first last e = refl

large_span : (lines single : Bool) (first last : ℕ) → (single ≡ true → last ≡ first) → is_bad_range (read_as single first last) lines ≡ false → is_too_large (read_as single first last).first (size (read_as single first last) lines) ≡ true → IsLargeSpan lines first last
large_span true true first last one good e =
    let above = ltb-true 4294967295 (min first (2 ^ 32) + ((min first (2 ^ 32) - min first (2 ^ 32)) + 1)) e in
    let same = one refl in
    (1, omega arith, omega arith)
large_span true false first last one good e =
    let above = ltb-true 4294967295 (min first (2 ^ 32) + ((min last (2 ^ 32) - min first (2 ^ 32)) + 1)) e in
    let order = ltb-false last first (or_parts (ltb last first) (eqb (min first (2 ^ 32)) 0) good).0 in
    (last + 1 - first, omega arith, omega arith)
large_span false true first last one good e = let above = ltb-true 4294967295 (min first (2 ^ 32) + 0) e in omega arith
large_span false false first last one good e = absurd cc

starts_below : (single : Bool) (first last least count : ℕ) → is_too_large (read_as single first last).first count ≡ false → ltb (read_as single first last).first least ≡ true → first < least
starts_below true first last least count fits e = let small = ltb-false 4294967295 (min first (2 ^ 32) + count) fits in let below = ltb-true (min first (2 ^ 32)) least e in omega arith
starts_below false first last least count fits e = let small = ltb-false 4294967295 (min first (2 ^ 32) + count) fits in let below = ltb-true (min first (2 ^ 32)) least e in omega arith

checked_breaks : (least : ℕ) (line : List ℕ) (is : IsCommand line) (kind : BadKind) → checked least (made (read_as is.old_range.0 is.old_range.1 is.old_range.2) is.action (read_as is.new_range.0 is.new_range.1 is.new_range.2)) ≡ Err kind → Breaks least kind [] line
checked_breaks least line is kind e =
    let old = read_as is.old_range.0 is.old_range.1 is.old_range.2 in
    let new = read_as is.new_range.0 is.new_range.1 is.new_range.2 in
    let old_lines = takes_lines is.action Forward in
    let new_lines = takes_lines is.action Reversed in
    let one_old = one_number is.old is.old_range.0 is.old_range.1 is.old_range.2 is.old_range.3 in
    let one_new = one_number is.new is.new_range.0 is.new_range.1 is.new_range.2 is.new_range.3 in
    first_failed (λ k. Breaks least k [] line) (is_bad_range old old_lines || is_bad_range new new_lines) (is_too_large old.first (size old old_lines) || is_too_large new.first (size new new_lines)) (ltb old.first least) (command (made old is.action new)) kind e
    (λ bad. (
      refl,
      (
        is,
        elim (or_cases _ _ bad) [
          | inl here ↦ inl (bad_span old_lines is.old_range.0 is.old_range.1 is.old_range.2 here)
          | inr here ↦ inr (bad_span new_lines is.new_range.0 is.new_range.1 is.new_range.2 here)
        ],
      ),
    ))
    (λ good large. (
      refl,
      (
        is,
        let both = or_parts _ _ good in elim (or_cases _ _ large) [
          | inl here ↦ inl (large_span old_lines is.old_range.0 is.old_range.1 is.old_range.2 one_old both.0 here)
          | inr here ↦ inr (large_span new_lines is.new_range.0 is.new_range.1 is.new_range.2 one_new both.1 here)
        ],
      ),
    ))
    (λ fits below. (refl, (is, starts_below is.old_range.0 is.old_range.1 is.old_range.2 least (size old old_lines) (or_parts _ _ fits).0 below)))

pub opening_breaks : (least : ℕ) (line : List ℕ) (kind : BadKind) → is_command line ≡ true → opening least line ≡ Err kind → Breaks least kind [] line
opening_breaks least line kind begins e = by (parts_at line) refl begins e
  where
    by : (o : Option Parts) → parts_at line ≡ o → is_some o ≡ true → from_parts least o ≡ Err kind → Breaks least kind [] line
    by None read begins e = absurd cc
    by (Some p) read begins e = let f = command_form line p read in checked_breaks least line f.is kind (ap (checked least) (sym f.read) ∙ e)
