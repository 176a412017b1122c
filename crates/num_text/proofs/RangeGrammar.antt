-- A range that is read is spelled so, and one that is spelled so is read.
use Rattle.std.proofs.Common.{◌≡◌, ℕ, ◌^◌, ◌<◌, min, Bool, true, false, cond, eqb, ltb, List, [], ◌∷◌, ◌++◌, Option, None, Some, refl, sym, ap, subst, ◌∙◌, append_assoc, arith}
use Rattle.std.proofs.lemmas.Bool.{eqb-true, le-ltb}
use Rattle.num_text.specs.Numbers.{number_at, NoDigitFirst, BeginsWithNumeral}
use Rattle.num_text.specs.declared.range.NumberRange.{NumberRange}
use Rattle.num_text.specs.NumberRanges.{one, two, with_second, behind_first, from_first, range_at, SpellsRange}
use Rattle.num_text.proofs.Runs.{number-takes, number-again}

-- what a range was read from
pub record TakesRange (bytes : List ℕ) (x : NumberRange × List ℕ) : Type 0 where
  pub text : List ℕ
  pub parts : bytes ≡ text ++ x.1
  pub spelled : SpellsRange text x.0.is_single x.0.first x.0.last
  pub turned : x.0.is_turned ≡ ltb x.0.last x.0.first

some_is : {A : Type 0} (x y : A) (o : Option A) → o ≡ Some x → o ≡ Some y → x ≡ y
some_is x y o e f = cc

uncapped : (n m : ℕ) → min n (2 ^ 32) ≡ m → m < 2 ^ 32 → n ≡ m
uncapped n m e small = omega arith

not-below : (n : ℕ) → ltb n n ≡ false
not-below n = le-ltb n n (omega arith)

takes-one : (bytes ds : List ℕ) (n : ℕ) (rest : List ℕ) → BeginsWithNumeral bytes ds n rest → n < 2 ^ 32 → TakesRange bytes (one n, rest)
takes-one bytes ds n rest b small =
    let m : min n (2 ^ 32) ≡ n = omega arith in
    record { text = ds; parts = b.parts; spelled = (refl, rw m b.numeral); turned = sym (not-below (min n (2 ^ 32))) }

takes-two : (bytes ds cs : List ℕ) (n m : ℕ) (middle rest : List ℕ) → BeginsWithNumeral bytes ds n (44 ∷ middle) → BeginsWithNumeral middle cs m rest → n < 2 ^ 32 → m < 2 ^ 32 → TakesRange bytes (two n m, rest)
takes-two bytes ds cs n m middle rest b c small small2 =
    let x : min n (2 ^ 32) ≡ n = omega arith in
    let y : min m (2 ^ 32) ≡ m = omega arith in
    record {
      text = ds ++ 44 ∷ cs;
      parts = b.parts ∙ ap (λ (r : List ℕ). ds ++ 44 ∷ r) c.parts ∙ sym (append_assoc ds (44 ∷ cs) rest);
      spelled = (ds, cs, rw x b.numeral, rw y c.numeral, refl);
      turned = rw (x, y) refl;
    }

small-one : (n : ℕ) (r : NumberRange) → one n ≡ r → r.first < 2 ^ 32 → n < 2 ^ 32
small-one n r e small = let m : min n (2 ^ 32) ≡ r.first = ap (λ (x : NumberRange). x.first) e in omega arith

small-two : (n k : ℕ) (r : NumberRange) → two n k ≡ r → r.first < 2 ^ 32 → r.last < 2 ^ 32 → (n < 2 ^ 32) × (k < 2 ^ 32)
small-two n k r e small small2 =
    let m : min n (2 ^ 32) ≡ r.first = ap (λ (x : NumberRange). x.first) e in
    let m2 : min k (2 ^ 32) ≡ r.last = ap (λ (x : NumberRange). x.last) e in
    (omega arith, omega arith)

pub range-takes : (bytes : List ℕ) (x : NumberRange × List ℕ) → range_at bytes ≡ Some x → x.0.first < 2 ^ 32 → x.0.last < 2 ^ 32 → TakesRange bytes x
unfolding range_at
range-takes bytes x e small small2 = by (number_at bytes) refl e
  where
    alone : (n : ℕ) (rest : List ℕ) → number_at bytes ≡ Some (n, rest) → Some (one n, rest) ≡ Some x → TakesRange bytes x
    alone n rest read h =
        let same : (one n, rest) ≡ x = some_is (one n, rest) x (Some (one n, rest)) refl h in
        let t = number-takes bytes (n, rest) read in
        subst (TakesRange bytes) same (takes-one bytes t.0 n rest t.1 (small-one n x.0 (ap (λ (y : NumberRange × List ℕ). y.0) same) small))

    second : (n : ℕ) (middle : List ℕ) → number_at bytes ≡ Some (n, 44 ∷ middle) → (o : Option (ℕ × List ℕ)) → number_at middle ≡ o → with_second n o ≡ Some x → TakesRange bytes x
    second n middle read None read2 h = absurd cc
    second n middle read (Some m) read2 h =
        let same : (two n m.0, m.1) ≡ x = some_is (two n m.0, m.1) x (Some (two n m.0, m.1)) refl h in
        let t = number-takes bytes (n, 44 ∷ middle) read in
        let u = number-takes middle m read2 in
        let s = small-two n m.0 x.0 (ap (λ (y : NumberRange × List ℕ). y.0) same) small small2 in
        subst (TakesRange bytes) same (takes-two bytes t.0 u.0 n m.0 middle m.1 t.1 u.1 s.0 s.1)

    comma : (n b : ℕ) (rest : List ℕ) → number_at bytes ≡ Some (n, b ∷ rest) → (v : Bool) → eqb b 44 ≡ v → cond v (with_second n (number_at rest)) (Some (one n, b ∷ rest)) ≡ Some x → TakesRange bytes x
    comma n b rest read true is h = second n rest (read ∙ ap (λ c. Some (n, c ∷ rest)) (eqb-true b 44 is)) (number_at rest) refl h
    comma n b rest read false is h = alone n (b ∷ rest) read h

    behind : (n : ℕ) (rest : List ℕ) → number_at bytes ≡ Some (n, rest) → behind_first n rest ≡ Some x → TakesRange bytes x
    behind n [] read h = alone n [] read h
    behind n (b ∷ rest) read h = comma n b rest read (eqb b 44) refl h

    by : (o : Option (ℕ × List ℕ)) → number_at bytes ≡ o → from_first o ≡ Some x → TakesRange bytes x
    by None read h = absurd cc
    by (Some n) read h = behind n.0 n.1 read h

-- neither a digit nor a comma comes first
pub record StopsRange (rest : List ℕ) : Type 0 where
  pub digit : NoDigitFirst rest
  pub comma : (n : ℕ) → behind_first n rest ≡ Some (one n, rest)

abbrev pub ranged : Bool → ℕ → ℕ → NumberRange
ranged single first last = record { first = first; last = last; is_single = single; is_turned = ltb last first }

pub range-first : (bytes : List ℕ) (n : ℕ) (rest : List ℕ) → number_at bytes ≡ Some (n, rest) → range_at bytes ≡ behind_first n rest
unfolding range_at
range-first bytes n rest read = rw read refl

pub range-again : (text : List ℕ) (single : Bool) (first last : ℕ) (rest : List ℕ) → SpellsRange text single first last → first < 2 ^ 32 → last < 2 ^ 32 → StopsRange rest → range_at (text ++ rest) ≡ Some (ranged single first last, rest)
range-again text true first last rest s small small2 stops =
    let m : min first (2 ^ 32) ≡ first = omega arith in
    range-first (text ++ rest) first rest (number-again text first rest s.1 stops.digit) ∙ stops.comma first ∙ rw (s.0, m, not-below first) refl
range-again text false first last rest s small small2 stops =
    let m : min first (2 ^ 32) ≡ first = omega arith in
    let k : min last (2 ^ 32) ≡ last = omega arith in
    let parts : text ++ rest ≡ s.0 ++ (44 ∷ (s.1 ++ rest)) = ap (λ (t : List ℕ). t ++ rest) s.4 ∙ append_assoc s.0 (44 ∷ s.1) rest in
    ap range_at parts ∙ range-first (s.0 ++ (44 ∷ (s.1 ++ rest))) first (44 ∷ (s.1 ++ rest)) (number-again s.0 first (44 ∷ (s.1 ++ rest)) s.2 refl)
    ∙ rw (number-again s.1 last rest s.3 stops.digit, m, k) refl

pub stops-nil : StopsRange []
stops-nil = record { digit = tt; comma = λ n. refl }

abbrev IsOne : NumberRange → Type 0
IsOne r = r.is_single ≡ true → r.last ≡ r.first

-- a single number counts as both
pub range-single : (bytes : List ℕ) (x : NumberRange × List ℕ) → range_at bytes ≡ Some x → x.0.is_single ≡ true → x.0.last ≡ x.0.first
unfolding range_at
range-single bytes x e = by (number_at bytes) e
  where
    found : (r : NumberRange) (rest : List ℕ) → IsOne r → Some (r, rest) ≡ Some x → IsOne x.0
    found r rest one_is h = let same : (r, rest) ≡ x = some_is (r, rest) x (Some (r, rest)) refl h in subst (λ (y : NumberRange × List ℕ). IsOne y.0) same one_is

    second : (n : ℕ) (o : Option (ℕ × List ℕ)) → with_second n o ≡ Some x → IsOne x.0
    second n None h = absurd cc
    second n (Some m) h = found (two n m.0) m.1 (λ is. absurd cc) h

    comma : (n b : ℕ) (rest : List ℕ) (v : Bool) → cond v (with_second n (number_at rest)) (Some (one n, b ∷ rest)) ≡ Some x → IsOne x.0
    comma n b rest true h = second n (number_at rest) h
    comma n b rest false h = found (one n) (b ∷ rest) (λ is. refl) h

    behind : (n : ℕ) (rest : List ℕ) → behind_first n rest ≡ Some x → IsOne x.0
    behind n [] h = found (one n) [] (λ is. refl) h
    behind n (b ∷ rest) h = comma n b rest (eqb b 44) h

    by : (o : Option (ℕ × List ℕ)) → from_first o ≡ Some x → IsOne x.0
    by None h = absurd cc
    by (Some n) h = behind n.0 n.1 h
