-- One number or two that were read, whatever they are.
use Rattle.std.proofs.Common.{◌≡◌, ℕ, Bool, true, false, cond, eqb, List, [], ◌∷◌, ◌++◌, Option, None, Some, refl, sym, ap, subst, ◌∙◌, append_assoc}
use Rattle.std.proofs.lemmas.Bool.{eqb-true}
use Rattle.line_list.proofs.Choices.{some_is}
use Rattle.num_text.specs.Numbers.{number_at}
use Rattle.num_text.specs.declared.range.NumberRange.{NumberRange}
use Rattle.num_text.specs.NumberRanges.{one, two, with_second, behind_first, from_first, range_at, SpellsRange}
use Rattle.num_text.proofs.Runs.{number-takes, number-again}
use Rattle.num_text.proofs.RangeGrammar.{StopsRange}

-- how one number, or two, are read
abbrev pub read_as : Bool → ℕ → ℕ → NumberRange
read_as true first last = one first
read_as false first last = two first last

pub record RangeForm (bytes : List ℕ) (x : NumberRange × List ℕ) : Type 0 where
  pub text : List ℕ
  pub single : Bool
  pub first : ℕ
  pub last : ℕ
  pub parts : bytes ≡ text ++ x.1
  pub spelled : SpellsRange text single first last
  pub read : x.0 ≡ read_as single first last

pub range_form : (bytes : List ℕ) (x : NumberRange × List ℕ) → range_at bytes ≡ Some x → RangeForm bytes x
unfolding range_at
range_form bytes x e = by (number_at bytes) refl e
  where
    alone : (n : ℕ) (rest : List ℕ) → number_at bytes ≡ Some (n, rest) → Some (one n, rest) ≡ Some x → RangeForm bytes x
    alone n rest read h =
        let same : (one n, rest) ≡ x = some_is (one n, rest) x (Some (one n, rest)) refl h in
        let t = number-takes bytes (n, rest) read in
        subst (RangeForm bytes) same (record { text = t.0; single = true; first = n; last = n; parts = t.1.parts; spelled = (refl, t.1.numeral); read = refl })

    second : (n : ℕ) (middle : List ℕ) → number_at bytes ≡ Some (n, 44 ∷ middle) → (o : Option (ℕ × List ℕ)) → number_at middle ≡ o → with_second n o ≡ Some x → RangeForm bytes x
    second n middle read None read2 h = absurd cc
    second n middle read (Some m) read2 h =
        let same : (two n m.0, m.1) ≡ x = some_is (two n m.0, m.1) x (Some (two n m.0, m.1)) refl h in
        let t = number-takes bytes (n, 44 ∷ middle) read in
        let u = number-takes middle m read2 in
        subst (RangeForm bytes) same (record {
          text = t.0 ++ 44 ∷ u.0;
          single = false;
          first = n;
          last = m.0;
          parts = t.1.parts ∙ ap (λ (r : List ℕ). t.0 ++ 44 ∷ r) u.1.parts ∙ sym (append_assoc t.0 (44 ∷ u.0) m.1);
          spelled = (t.0, u.0, t.1.numeral, u.1.numeral, refl);
          read = refl;
        })

    comma : (n b : ℕ) (rest : List ℕ) → number_at bytes ≡ Some (n, b ∷ rest) → (v : Bool) → eqb b 44 ≡ v → cond v (with_second n (number_at rest)) (Some (one n, b ∷ rest)) ≡ Some x → RangeForm bytes x
    comma n b rest read true is h = second n rest (read ∙ ap (λ c. Some (n, c ∷ rest)) (eqb-true b 44 is)) (number_at rest) refl h
    comma n b rest read false is h = alone n (b ∷ rest) read h

    behind : (n : ℕ) (rest : List ℕ) → number_at bytes ≡ Some (n, rest) → behind_first n rest ≡ Some x → RangeForm bytes x
    behind n [] read h = alone n [] read h
    behind n (b ∷ rest) read h = comma n b rest read (eqb b 44) refl h

    by : (o : Option (ℕ × List ℕ)) → number_at bytes ≡ o → from_first o ≡ Some x → RangeForm bytes x
    by None read h = absurd cc
    by (Some n) read h = behind n.0 n.1 read h

pub range_read : (text : List ℕ) (single : Bool) (first last : ℕ) (rest : List ℕ) → SpellsRange text single first last → StopsRange rest → range_at (text ++ rest) ≡ Some (read_as single first last, rest)
unfolding range_at
range_read text true first last rest s stops = rw (number-again text first rest s.1 stops.digit) (stops.comma first)
range_read text false first last rest s stops =
    let parts : text ++ rest ≡ s.0 ++ (44 ∷ (s.1 ++ rest)) = ap (λ (t : List ℕ). t ++ rest) s.4 ∙ append_assoc s.0 (44 ∷ s.1) rest in
    rw (parts, number-again s.0 first (44 ∷ (s.1 ++ rest)) s.2 refl, number-again s.1 last rest s.3 stops.digit) refl
