-- The tests of the grammar, in words.
use Rattle.std.proofs.Common.{◌≡◌, ◌↔◌, ◌⊎◌, inl, inr, ℕ, Bool, true, false, cond, eqb, ◌||◌, List, [], ◌∷◌, ◌++◌, Option, None, Some, refl, sym, ap, subst, ◌∙◌, append_assoc}
use Rattle.std.specs.Prelude.{is_some}
use Rattle.std.proofs.lemmas.Bool.{eqb-true}
use Rattle.hunk_core.specs.declared.Side.{Side}
use Rattle.hunk_core.specs.declared.Side.TheVariants.{Forward, Reversed}
use Rattle.hunk_core.specs.LineTests.{after}
use Rattle.line_list.proofs.Choices.{some_is}
use Rattle.hunk_core.proofs.TextLemmas.{after-takes, has_some}
use Rattle.num_text.specs.Numbers.{number_at}
use Rattle.num_text.specs.declared.range.NumberRange.{NumberRange}
use Rattle.num_text.specs.NumberRanges.{one, two, with_second, behind_first, from_first, range_at, SpellsRange}
use Rattle.num_text.proofs.Runs.{number-takes, number-again}
use Rattle.num_text.proofs.RangeGrammar.{StopsRange, range-first}
use Rattle.hunk_core.specs.Letters.{letter, action_at, is_line_end}
use Rattle.hunk_core.proofs.OptionLemmas.{some_step}
use Rattle.hunk_core.proofs.CommandLemmas.{action-takes, action-again, stops-letter}
use Rattle.normal_form.specs.declared.command.Parts.{Parts}
use Rattle.normal_form.specs.Commands.{parts_at, is_command}
use Rattle.normal_form.specs.Stretches.{marks, ends_divider, is_divider}
use Rattle.normal_form.specs.Hunks.{is_marked}
use Rattle.normal_form.specs.Grammar.{IsRange, IsCommand}
use Rattle.normal_form.proofs.CommandGrammar.{stops-end, whole-ok, join_parts}

-- ---- ranges, however large their numbers are

-- the bytes begin with a range, and then with this rest
record BeginsWithRange (bytes rest : List ℕ) : Type 0 where
  text : List ℕ
  range : IsRange text
  parts : bytes ≡ text ++ rest

range-found : (bytes : List ℕ) (x : NumberRange × List ℕ) → range_at bytes ≡ Some x → BeginsWithRange bytes x.1
unfolding range_at
range-found bytes x e = by (number_at bytes) refl e
  where
    alone : (n : ℕ) (rest : List ℕ) → number_at bytes ≡ Some (n, rest) → Some (one n, rest) ≡ Some x → BeginsWithRange bytes x.1
    alone n rest read h =
        let same : (one n, rest) ≡ x = some_is (one n, rest) x (Some (one n, rest)) refl h in
        let t = number-takes bytes (n, rest) read in
        subst (λ (y : NumberRange × List ℕ). BeginsWithRange bytes y.1) same (record { text = t.0; range = (true, n, n, (refl, t.1.numeral)); parts = t.1.parts })

    second : (n : ℕ) (middle : List ℕ) → number_at bytes ≡ Some (n, 44 ∷ middle) → (o : Option (ℕ × List ℕ)) → number_at middle ≡ o → with_second n o ≡ Some x → BeginsWithRange bytes x.1
    second n middle read None read2 h = absurd cc
    second n middle read (Some m) read2 h =
        let same : (two n m.0, m.1) ≡ x = some_is (two n m.0, m.1) x (Some (two n m.0, m.1)) refl h in
        let t = number-takes bytes (n, 44 ∷ middle) read in
        let u = number-takes middle m read2 in
        subst (λ (y : NumberRange × List ℕ). BeginsWithRange bytes y.1) same (record {
          text = t.0 ++ 44 ∷ u.0;
          range = (false, n, m.0, (t.0, u.0, t.1.numeral, u.1.numeral, refl));
          parts = t.1.parts ∙ ap (λ (r : List ℕ). t.0 ++ 44 ∷ r) u.1.parts ∙ sym (append_assoc t.0 (44 ∷ u.0) m.1);
        })

    comma : (n b : ℕ) (rest : List ℕ) → number_at bytes ≡ Some (n, b ∷ rest) → (v : Bool) → eqb b 44 ≡ v → cond v (with_second n (number_at rest)) (Some (one n, b ∷ rest)) ≡ Some x → BeginsWithRange bytes x.1
    comma n b rest read true is h = second n rest (read ∙ ap (λ c. Some (n, c ∷ rest)) (eqb-true b 44 is)) (number_at rest) refl h
    comma n b rest read false is h = alone n (b ∷ rest) read h

    behind : (n : ℕ) (rest : List ℕ) → number_at bytes ≡ Some (n, rest) → behind_first n rest ≡ Some x → BeginsWithRange bytes x.1
    behind n [] read h = alone n [] read h
    behind n (b ∷ rest) read h = comma n b rest read (eqb b 44) refl h

    by : (o : Option (ℕ × List ℕ)) → number_at bytes ≡ o → from_first o ≡ Some x → BeginsWithRange bytes x.1
    by None read h = absurd cc
    by (Some n) read h = behind n.0 n.1 read h

range-read : (text : List ℕ) (single : Bool) (first last : ℕ) (rest : List ℕ) → SpellsRange text single first last → StopsRange rest → (r : NumberRange) × (range_at (text ++ rest) ≡ Some (r, rest))
range-read text true first last rest s stops = (one first, range-first (text ++ rest) first rest (number-again text first rest s.1 stops.digit) ∙ stops.comma first)
range-read text false first last rest s stops =
    let parts : text ++ rest ≡ s.0 ++ (44 ∷ (s.1 ++ rest)) = ap (λ (t : List ℕ). t ++ rest) s.4 ∙ append_assoc s.0 (44 ∷ s.1) rest in
    (two first last, ap range_at parts ∙ range-first (s.0 ++ (44 ∷ (s.1 ++ rest))) first (44 ∷ (s.1 ++ rest)) (number-again s.0 first (44 ∷ (s.1 ++ rest)) s.2 refl) ∙ rw (number-again s.1 last rest s.3 stops.digit) refl)

-- ---- a command

pub end-found : (rest : List ℕ) → is_line_end rest ≡ true → (rest ≡ []) ⊎ (rest ≡ 10 ∷ [])
end-found [] e = inl refl
end-found (b ∷ []) e = inr (ap (λ c. c ∷ []) (eqb-true b 10 e))
end-found (b ∷ c ∷ rest) e = absurd cc

end-is : (rest : List ℕ) → (rest ≡ []) ⊎ (rest ≡ 10 ∷ []) → is_line_end rest ≡ true
end-is rest (inl e) = rw e refl
end-is rest (inr e) = rw e refl

command-found : (line : List ℕ) (p : Parts) → parts_at line ≡ Some p → IsCommand line
unfolding parts_at
command-found line p e =
    let a = some_step (range_at line) _ p e in
    let b = some_step (action_at a.0.1) _ p a.2 in
    let d = some_step (range_at b.0.1) _ p b.2 in
    let w = whole-ok a.0.0 b.0.0 d.0.0 d.0.1 p d.2 in
    let old = range-found line a.0 a.1 in
    let new = range-found b.0.1 d.0 d.1 in
    record {
      old = old.text;
      action = b.0.0;
      new = new.text;
      rest = d.0.1;
      parts = join_parts line old.text a.0.1 (letter b.0.0) b.0.1 new.text d.0.1 old.parts (action-takes a.0.1 b.0 b.1) new.parts;
      old_range = old.range;
      new_range = new.range;
      ends = end-found d.0.1 w.0;
    }

command-is : (line : List ℕ) → IsCommand line → is_command line ≡ true
unfolding parts_at
command-is line c =
    let ends = end-is c.rest c.ends in
    let old = range-read c.old c.old_range.0 c.old_range.1 c.old_range.2 (letter c.action ∷ (c.new ++ c.rest)) c.old_range.3 (stops-letter c.action (c.new ++ c.rest)) in
    let new = range-read c.new c.new_range.0 c.new_range.1 c.new_range.2 c.rest c.new_range.3 (stops-end c.rest ends) in
    rw (c.parts, old.1, action-again c.action (c.new ++ c.rest), new.1, ends) refl

pub command-words : (line : List ℕ) → is_command line ≡ true ↔ IsCommand line
command-words line = (λ e. (let p = has_some (parts_at line) e in command-found line p.0 p.1), command-is line)

-- ---- lines of a hunk

abbrev HasMark : List ℕ → Type 0
HasMark line = (side : Side) × (bytes : List ℕ) × (line ≡ marks side ++ bytes)

mark-of : (side : Side) (line : List ℕ) → is_some (after (marks side) line) ≡ true → HasMark line
mark-of side line e = let s = has_some (after (marks side) line) e in (side, s.0, after-takes (marks side) line s.0 s.1)

mark-found : (line : List ℕ) → is_marked line ≡ true → HasMark line
mark-found line e = by (is_some (after (marks Forward) line)) refl e
  where
    by : (v : Bool) → is_some (after (marks Forward) line) ≡ v → (v || is_some (after (marks Reversed) line)) ≡ true → HasMark line
    by true is h = mark-of Forward line is
    by false is h = mark-of Reversed line h

pub mark-is : (side : Side) (bytes : List ℕ) → is_marked (marks side ++ bytes) ≡ true
unfolding after
mark-is Forward bytes = refl
mark-is Reversed bytes = refl

pub marked-words : (line : List ℕ) → is_marked line ≡ true ↔ ((side : Side) × (bytes : List ℕ) × (line ≡ marks side ++ bytes))
marked-words line = (mark-found line, λ h. rw h.2 (mark-is h.0 h.1))

divides-by : (line : List ℕ) (o : Option (List ℕ)) → after (45 ∷ 45 ∷ 45 ∷ []) line ≡ o → ends_divider o ≡ true → (line ≡ 45 ∷ 45 ∷ 45 ∷ []) ⊎ (line ≡ 45 ∷ 45 ∷ 45 ∷ 10 ∷ [])
divides-by line None read e = absurd cc
divides-by line (Some rest) read e =
    let parts = after-takes (45 ∷ 45 ∷ 45 ∷ []) line rest read in
    elim (end-found rest e) [
      | inl none ↦ inl (parts ∙ ap (λ (r : List ℕ). 45 ∷ 45 ∷ 45 ∷ r) none)
      | inr feed ↦ inr (parts ∙ ap (λ (r : List ℕ). 45 ∷ 45 ∷ 45 ∷ r) feed)
    ]

divides : (line : List ℕ) → (line ≡ 45 ∷ 45 ∷ 45 ∷ []) ⊎ (line ≡ 45 ∷ 45 ∷ 45 ∷ 10 ∷ []) → is_divider line ≡ true
unfolding after
divides line (inl e) = rw e refl
divides line (inr e) = rw e refl

pub divider-words : (line : List ℕ) → is_divider line ≡ true ↔ ((line ≡ 45 ∷ 45 ∷ 45 ∷ []) ⊎ (line ≡ 45 ∷ 45 ∷ 45 ∷ 10 ∷ []))
divider-words line = (λ e. divides-by line (after (45 ∷ 45 ∷ 45 ∷ []) line) refl e, divides line)
