-- Numbers with blanks around them: what is read is spelled so, and what is spelled so is read.
use Rattle.std.proofs.Common.{◌≡◌, ℕ, ◌+◌, ◌^◌, ◌<◌, ◌≤◌, min, Bool, true, false, cond, eqb, ltb, List, [], ◌∷◌, ◌++◌, length, drop, get_or, Option, None, Some, refl, sym, ap, subst, ◌∙◌, append_assoc, arith, inl, inr}
use Rattle.std.proofs.lemmas.Bool.{eqb-true, leb-true, le-ltb, ne_eqb, and_parts, or_cases, cases_lt}
use Rattle.std.proofs.lemmas.List.{drop_more, drop_all}
use Rattle.line_list.proofs.Choices.{some_is}
use Rattle.num_text.specs.declared.range.NumberRange.{NumberRange}
use Rattle.num_text.specs.Numbers.{is_digit, number_at, IsNumeral, NoDigitFirst}
use Rattle.num_text.specs.NumberRanges.{one, two}
use Rattle.num_text.proofs.Runs.{number-takes, number-again}
use Rattle.context_form.specs.Ranges.{is_blank, unblanked, with_later, behind_number, from_number, spaced_at}
use Rattle.context_form.specs.Grammar.{AreBlanks, IsSpaced, SpellsSpaced}

-- ---- blanks

pub blank-nil : unblanked [] ≡ []
unfolding unblanked
blank-nil = refl

pub blank-step : (b : ℕ) (bytes : List ℕ) → is_blank b ≡ true → unblanked (b ∷ bytes) ≡ unblanked bytes
unfolding unblanked
blank-step b bytes e = rw e refl

pub blank-stop : (b : ℕ) (bytes : List ℕ) → is_blank b ≡ false → unblanked (b ∷ bytes) ≡ b ∷ bytes
unfolding unblanked
blank-stop b bytes e = rw e refl

-- no blank comes first
abbrev pub NoBlankFirst : List ℕ → Type 0
NoBlankFirst [] = Unit {0}
NoBlankFirst (b ∷ bytes) = is_blank b ≡ false

-- the blanks at the front
pub record Blanked (bytes : List ℕ) : Type 0 where
  pub front : List ℕ
  pub parts : bytes ≡ front ++ unblanked bytes
  pub blanks : AreBlanks front

pub blanked : (bytes : List ℕ) → Blanked bytes
blanked [] = record { front = []; parts = sym blank-nil; blanks = tt }
blanked (b ∷ bytes) = by (is_blank b) refl (blanked bytes)
  where
    by : (v : Bool) → is_blank b ≡ v → Blanked bytes → Blanked (b ∷ bytes)
    by true is r = record {
      front = b ∷ r.front;
      parts = ap (λ (x : List ℕ). b ∷ x) r.parts ∙ ap (λ (x : List ℕ). b ∷ (r.front ++ x)) (sym (blank-step b bytes is));
      blanks = (is, r.blanks);
    }
    by false is r = record { front = []; parts = sym (blank-stop b bytes is); blanks = tt }

pub blank-again : (front rest : List ℕ) → AreBlanks front → NoBlankFirst rest → unblanked (front ++ rest) ≡ rest
blank-again [] [] blanks none = blank-nil
blank-again [] (b ∷ rest) blanks none = blank-stop b rest none
blank-again (b ∷ front) rest blanks none = blank-step b (front ++ rest) blanks.0 ∙ blank-again front rest blanks.1 none

pub digit-unblank : (d : ℕ) → is_digit d ≡ true → is_blank d ≡ false
digit-unblank d e =
    let low : 48 ≤ d = leb-true 48 d (and_parts _ _ e).0 in
    rw (ne_eqb d 32 (λ (is : d ≡ 32). omega (arith, low, is)), ne_eqb d 9 (λ (is : d ≡ 9). omega (arith, low, is))) refl

blank-undigit : (b : ℕ) → is_blank b ≡ true → is_digit b ≡ false
blank-undigit b e = elim (or_cases (eqb b 32) (eqb b 9) e) [
  | inl space ↦ rw (eqb-true b 32 space) refl
  | inr tab ↦ rw (eqb-true b 9 tab) refl
]

undigit : (behind rest : List ℕ) → AreBlanks behind → NoDigitFirst rest → NoDigitFirst (behind ++ rest)
undigit [] rest blanks none = none
undigit (b ∷ behind) rest blanks none = blank-undigit b blanks.0

-- ---- in a text

pub blank-more : (text : List ℕ) (at : ℕ) → at < length text → is_blank (get_or text at 0) ≡ true → unblanked (drop at text) ≡ unblanked (drop (at + 1) text)
blank-more text at lt h = rw (drop_more text at 0 lt) (blank-step (get_or text at 0) (drop (at + 1) text) h)

pub blank-ends : (text : List ℕ) (at : ℕ) → (at < length text → is_blank (get_or text at 0) ≡ false) → unblanked (drop at text) ≡ drop at text
blank-ends text at h =
    elim (cases_lt at (length text)) [
      | inl lt ↦ rw (drop_more text at 0 lt) (blank-stop (get_or text at 0) (drop (at + 1) text) (h lt))
      | inr le ↦ rw (drop_all at text le) blank-nil
    ]

-- ---- one number

record SpacedAt (bytes : List ℕ) (n : ℕ) (rest : List ℕ) : Type 0 where
  text : List ℕ
  parts : bytes ≡ text ++ unblanked rest
  is : IsSpaced text n

join_three : (a b c d : List ℕ) → a ++ (b ++ (c ++ d)) ≡ (a ++ (b ++ c)) ++ d
join_three a b c d = sym (append_assoc a (b ++ c) d ∙ ap (λ (x : List ℕ). a ++ x) (append_assoc b c d))

spaced-number : (bytes : List ℕ) (n : ℕ) (rest : List ℕ) → number_at (unblanked bytes) ≡ Some (n, rest) → SpacedAt bytes n rest
spaced-number bytes n rest read =
    let f = blanked bytes in
    let t = number-takes (unblanked bytes) (n, rest) read in
    let b = blanked rest in
    record {
      text = f.front ++ (t.0 ++ b.front);
      parts = f.parts ∙ ap (λ (x : List ℕ). f.front ++ x) (t.1.parts ∙ ap (λ (x : List ℕ). t.0 ++ x) b.parts) ∙ join_three f.front t.0 b.front (unblanked rest);
      is = record { front = f.front; digits = t.0; behind = b.front; parts = refl; before = f.blanks; numeral = t.1.numeral; after = b.blanks };
    }

numeral-unblank : (ds : List ℕ) (n : ℕ) (rest : List ℕ) → IsNumeral ds n → NoBlankFirst (ds ++ rest)
numeral-unblank [] n rest is = absurd (omega (arith, is.some))
numeral-unblank (d ∷ ds) n rest is = digit-unblank d is.digits.0

pub spaced-again : (text : List ℕ) (n : ℕ) (rest : List ℕ) (s : IsSpaced text n) → NoDigitFirst rest → number_at (unblanked (text ++ rest)) ≡ Some (n, s.behind ++ rest)
spaced-again text n rest s none =
    ap (λ (x : List ℕ). number_at (unblanked (x ++ rest))) s.parts
    ∙ ap (λ (x : List ℕ). number_at (unblanked x)) (sym (join_three s.front s.digits s.behind rest))
    ∙ ap number_at (blank-again s.front (s.digits ++ (s.behind ++ rest)) s.before (numeral-unblank s.digits n (s.behind ++ rest) s.numeral))
    ∙ number-again s.digits n (s.behind ++ rest) s.numeral (undigit s.behind rest s.after none)

-- ---- one number or two

-- how one number, or two, are read
abbrev pub read_as : Bool → ℕ → ℕ → NumberRange
read_as true first last = one first
read_as false first last = two first last

pub record SpacedForm (bytes : List ℕ) (x : NumberRange × List ℕ) : Type 0 where
  pub text : List ℕ
  pub single : Bool
  pub first : ℕ
  pub last : ℕ
  pub parts : bytes ≡ text ++ x.1
  pub spelled : SpellsSpaced text single first last
  pub read : x.0 ≡ read_as single first last

pub spaced_form : (bytes : List ℕ) (x : NumberRange × List ℕ) → spaced_at bytes ≡ Some x → SpacedForm bytes x
unfolding spaced_at
spaced_form bytes x e = by (number_at (unblanked bytes)) refl e
  where
    alone : (n : ℕ) (rest u : List ℕ) → number_at (unblanked bytes) ≡ Some (n, rest) → unblanked rest ≡ u → Some (one n, u) ≡ Some x → SpacedForm bytes x
    alone n rest u read is h =
        let same : (one n, u) ≡ x = some_is (one n, u) x (Some (one n, u)) refl h in
        let t = spaced-number bytes n rest read in
        subst (SpacedForm bytes) same (record { text = t.text; single = true; first = n; last = n; parts = t.parts ∙ ap (λ (r : List ℕ). t.text ++ r) is; spelled = (refl, t.is); read = refl })

    second : (n : ℕ) (rest middle : List ℕ) → number_at (unblanked bytes) ≡ Some (n, rest) → unblanked rest ≡ 44 ∷ middle → (o : Option (ℕ × List ℕ)) → number_at (unblanked middle) ≡ o → with_later n o ≡ Some x → SpacedForm bytes x
    second n rest middle read is None read2 h = absurd cc
    second n rest middle read is (Some m) read2 h =
        let same : (two n m.0, unblanked m.1) ≡ x = some_is (two n m.0, unblanked m.1) x (Some (two n m.0, unblanked m.1)) refl h in
        let t = spaced-number bytes n rest read in
        let u = spaced-number middle m.0 m.1 read2 in
        subst (SpacedForm bytes) same (record {
          text = t.text ++ 44 ∷ u.text;
          single = false;
          first = n;
          last = m.0;
          parts = t.parts ∙ ap (λ (r : List ℕ). t.text ++ r) is ∙ ap (λ (r : List ℕ). t.text ++ 44 ∷ r) u.parts ∙ sym (append_assoc t.text (44 ∷ u.text) (unblanked m.1));
          spelled = (t.text, u.text, t.is, u.is, refl);
          read = refl;
        })

    comma : (n b : ℕ) (rest more : List ℕ) → number_at (unblanked bytes) ≡ Some (n, rest) → unblanked rest ≡ b ∷ more → (v : Bool) → eqb b 44 ≡ v → cond v (with_later n (number_at (unblanked more))) (Some (one n, b ∷ more)) ≡ Some x → SpacedForm bytes x
    comma n b rest more read is true same h = second n rest more read (is ∙ ap (λ c. c ∷ more) (eqb-true b 44 same)) (number_at (unblanked more)) refl h
    comma n b rest more read is false same h = alone n rest (b ∷ more) read is h

    behind : (n : ℕ) (rest u : List ℕ) → number_at (unblanked bytes) ≡ Some (n, rest) → unblanked rest ≡ u → behind_number n u ≡ Some x → SpacedForm bytes x
    behind n rest [] read is h = alone n rest [] read is h
    behind n rest (b ∷ more) read is h = comma n b rest more read is (eqb b 44) refl h

    by : (o : Option (ℕ × List ℕ)) → number_at (unblanked bytes) ≡ o → from_number o ≡ Some x → SpacedForm bytes x
    by None read h = absurd cc
    by (Some n) read h = behind n.0 n.1 (unblanked n.1) read refl h

-- neither a digit nor a blank nor a comma comes first
pub record StopsSpaced (rest : List ℕ) : Type 0 where
  pub digit : NoDigitFirst rest
  pub blank : NoBlankFirst rest
  pub comma : (n : ℕ) → behind_number n rest ≡ Some (one n, rest)

spaced-first : (bytes : List ℕ) (n : ℕ) (rest u : List ℕ) → number_at (unblanked bytes) ≡ Some (n, rest) → unblanked rest ≡ u → spaced_at bytes ≡ behind_number n u
unfolding spaced_at
spaced-first bytes n rest u read is = ap from_number read ∙ ap (behind_number n) is

pub spaced_read : (text : List ℕ) (single : Bool) (first last : ℕ) (rest : List ℕ) → SpellsSpaced text single first last → StopsSpaced rest → spaced_at (text ++ rest) ≡ Some (read_as single first last, rest)
spaced_read text true first last rest s stops = spaced-first (text ++ rest) first (s.1.behind ++ rest) rest (spaced-again text first rest s.1 stops.digit) (blank-again s.1.behind rest s.1.after stops.blank) ∙ stops.comma first
spaced_read text false first last rest s stops =
    let more : List ℕ = s.1 ++ rest in
    ap spaced_at (ap (λ (t : List ℕ). t ++ rest) s.4 ∙ append_assoc s.0 (44 ∷ s.1) rest)
    ∙ spaced-first (s.0 ++ (44 ∷ more)) first (s.2.behind ++ (44 ∷ more)) (44 ∷ more) (spaced-again s.0 first (44 ∷ more) s.2 refl) (blank-again s.2.behind (44 ∷ more) s.2.after refl)
    ∙ ap (with_later first) (spaced-again s.1 last rest s.3 stops.digit)
    ∙ ap (λ (u : List ℕ). Some (two first last, u)) (blank-again s.3.behind rest s.3.after stops.blank)

-- ---- numbers that aren't too large

not-below : (n : ℕ) → ltb n n ≡ false
not-below n = le-ltb n n (omega arith)

-- a range that was read has its numbers
abbrev pub IsTaken : List ℕ → NumberRange → Type 0
IsTaken text r = SpellsSpaced text r.is_single r.first r.last × (r.is_turned ≡ ltb r.last r.first)

pub small-taken : (text : List ℕ) (single : Bool) (first last : ℕ) → SpellsSpaced text single first last → (read_as single first last).first < 2 ^ 32 → (read_as single first last).last < 2 ^ 32 → IsTaken text (read_as single first last)
small-taken text true first last s small small2 =
    let m : min first (2 ^ 32) ≡ first = omega arith in
    ((refl, rw m s.1), sym (not-below (min first (2 ^ 32))))
small-taken text false first last s small small2 =
    let m : min first (2 ^ 32) ≡ first = omega arith in
    let k : min last (2 ^ 32) ≡ last = omega arith in
    ((s.0, s.1, rw m s.2, rw k s.3, s.4), rw (m, k) refl)

pub one-same : (single : Bool) (first last : ℕ) → (read_as single first last).is_single ≡ true → (read_as single first last).last ≡ (read_as single first last).first
one-same true first last is = refl
one-same false first last is = absurd cc
