-- The tests on lines, in words.
use Rattle.std.proofs.Common.{◌≡◌, ◌↔◌, ◌⊎◌, inl, inr, ℕ, Bool, true, false, cond, eqb, List, [], ◌∷◌, ◌++◌, Option, None, Some, refl, sym, ap, subst, ◌∙◌, append_assoc}
use Rattle.std.proofs.lemmas.Bool.{eqb-true}
use Rattle.std.proofs.lemmas.List.{append-nil}
use Rattle.hunk_core.specs.LineTests.{after}
use Rattle.line_list.proofs.Choices.{some_is}
use Rattle.hunk_core.proofs.TextLemmas.{has_some, after-takes, after-again}
use Rattle.num_text.specs.Numbers.{number_at}
use Rattle.num_text.specs.declared.range.NumberRange.{NumberRange}
use Rattle.num_text.specs.NumberRanges.{one, two, with_second, behind_first, from_first, range_at, SpellsRange}
use Rattle.num_text.proofs.Runs.{number-takes, number-again}
use Rattle.num_text.proofs.RangeGrammar.{StopsRange}
use Rattle.hunk_core.specs.Letters.{action_at, is_line_end, letter}
use Rattle.hunk_core.proofs.OptionLemmas.{some_step}
use Rattle.hunk_core.proofs.CommandLemmas.{action-takes, action-again, stops-letter}
use Rattle.ed_form.specs.declared.command.Command.{Command}
use Rattle.ed_form.specs.Commands.{parts_at, is_command}
use Rattle.ed_form.specs.Texts.{is_word, is_substitution}
use Rattle.ed_form.specs.Grammar.{IsCommand}
use Rattle.ed_form.proofs.Lasts.{word-takes, word-again}
use Rattle.ed_form.proofs.CommandGrammar.{whole-ok}

-- the numbers of a range, however large
pub record Numbers (bytes rest : List ℕ) : Type 0 where
  pub text : List ℕ
  pub single : Bool
  pub first : ℕ
  pub last : ℕ
  pub parts : bytes ≡ text ++ rest
  pub spelled : SpellsRange text single first last

range-numbers : (bytes : List ℕ) (x : NumberRange × List ℕ) → range_at bytes ≡ Some x → Numbers bytes x.1
unfolding range_at
range-numbers bytes x e = by (number_at bytes) refl e
  where
    alone : (n : ℕ) (rest : List ℕ) → number_at bytes ≡ Some (n, rest) → Some (one n, rest) ≡ Some x → Numbers bytes x.1
    alone n rest read h =
        let same : (one n, rest) ≡ x = some_is (one n, rest) x (Some (one n, rest)) refl h in
        let t = number-takes bytes (n, rest) read in
        subst (λ (y : NumberRange × List ℕ). Numbers bytes y.1) same (record { text = t.0; single = true; first = n; last = n; parts = t.1.parts; spelled = (refl, t.1.numeral) })

    second : (n : ℕ) (middle : List ℕ) → number_at bytes ≡ Some (n, 44 ∷ middle) → (o : Option (ℕ × List ℕ)) → number_at middle ≡ o → with_second n o ≡ Some x → Numbers bytes x.1
    second n middle read None read2 h = absurd cc
    second n middle read (Some m) read2 h =
        let same : (two n m.0, m.1) ≡ x = some_is (two n m.0, m.1) x (Some (two n m.0, m.1)) refl h in
        let t = number-takes bytes (n, 44 ∷ middle) read in
        let u = number-takes middle m read2 in
        subst (λ (y : NumberRange × List ℕ). Numbers bytes y.1) same (record {
          text = t.0 ++ 44 ∷ u.0;
          single = false;
          first = n;
          last = m.0;
          parts = t.1.parts ∙ ap (λ (r : List ℕ). t.0 ++ 44 ∷ r) u.1.parts ∙ sym (append_assoc t.0 (44 ∷ u.0) m.1);
          spelled = (t.0, u.0, t.1.numeral, u.1.numeral, refl);
        })

    comma : (n b : ℕ) (rest : List ℕ) → number_at bytes ≡ Some (n, b ∷ rest) → (v : Bool) → eqb b 44 ≡ v → cond v (with_second n (number_at rest)) (Some (one n, b ∷ rest)) ≡ Some x → Numbers bytes x.1
    comma n b rest read true is h = second n rest (read ∙ ap (λ c. Some (n, c ∷ rest)) (eqb-true b 44 is)) (number_at rest) refl h
    comma n b rest read false is h = alone n (b ∷ rest) read h

    behind : (n : ℕ) (rest : List ℕ) → number_at bytes ≡ Some (n, rest) → behind_first n rest ≡ Some x → Numbers bytes x.1
    behind n [] read h = alone n [] read h
    behind n (b ∷ rest) read h = comma n b rest read (eqb b 44) refl h

    by : (o : Option (ℕ × List ℕ)) → number_at bytes ≡ o → from_first o ≡ Some x → Numbers bytes x.1
    by None read h = absurd cc
    by (Some n) read h = behind n.0 n.1 read h

range-there : (text : List ℕ) (single : Bool) (first last : ℕ) (rest : List ℕ) → SpellsRange text single first last → StopsRange rest → (r : NumberRange) × (range_at (text ++ rest) ≡ Some (r, rest))
unfolding range_at
range-there text true first last rest s stops = (one first, rw (number-again text first rest s.1 stops.digit) (stops.comma first))
range-there text false first last rest s stops =
    let parts : text ++ rest ≡ s.0 ++ (44 ∷ (s.1 ++ rest)) = ap (λ (t : List ℕ). t ++ rest) s.4 ∙ append_assoc s.0 (44 ∷ s.1) rest in
    (two first last, rw (parts, number-again s.0 first (44 ∷ (s.1 ++ rest)) s.2 refl, number-again s.1 last rest s.3 stops.digit) refl)

command-takes : (line : List ℕ) (c : Command) → parts_at line ≡ Some c → IsCommand line
unfolding parts_at
command-takes line c e =
    let a = some_step (range_at line) _ c e in
    let b = some_step (action_at a.0.1) _ c a.2 in
    let w = whole-ok a.0.0 b.0.0 b.0.1 c b.2 in
    let n = range-numbers line a.0 a.1 in
    record {
      text = n.text;
      single = n.single;
      first = n.first;
      last = n.last;
      action = b.0.0;
      rest = b.0.1;
      parts = n.parts ∙ ap (λ (r : List ℕ). n.text ++ r) (action-takes a.0.1 b.0 b.1);
      ends = w.0;
      numbers = n.spelled;
    }

command-there : (line : List ℕ) → IsCommand line → is_command line ≡ true
unfolding parts_at
command-there line s =
    let r = range-there s.text s.single s.first s.last (letter s.action ∷ s.rest) s.numbers (stops-letter s.action s.rest) in
    rw (s.parts, r.1, action-again s.action s.rest, s.ends) refl

pub command-words : (line : List ℕ) → is_command line ≡ true ↔ IsCommand line
command-words line = (λ e. let c = has_some (parts_at line) e in command-takes line c.0 c.1, λ s. command-there line s)

word-ends : (word line rest : List ℕ) → line ≡ word ++ rest → is_line_end rest ≡ true → (line ≡ word) ⊎ (line ≡ word ++ 10 ∷ [])
word-ends word line [] e h = inl (e ∙ append-nil word)
word-ends word line (b ∷ []) e h = inr (e ∙ ap (λ k. word ++ k ∷ []) (eqb-true b 10 h))
word-ends word line (b ∷ c ∷ rest) e h = absurd cc

word-there : (word line : List ℕ) → (line ≡ word) ⊎ (line ≡ word ++ 10 ∷ []) → is_word word line ≡ true
word-there word line (inl e) = ap (is_word word) (e ∙ sym (append-nil word)) ∙ word-again word [] refl
word-there word line (inr e) = ap (is_word word) e ∙ word-again word (10 ∷ []) refl

pub word-words : (word line : List ℕ) → is_word word line ≡ true ↔ ((line ≡ word) ⊎ (line ≡ word ++ 10 ∷ []))
word-words word line = (λ e. let t = word-takes word line e in word-ends word line t.0 t.1 t.2, λ h. word-there word line h)

pub substitution-words : (line : List ℕ) → is_substitution line ≡ true ↔ ((rest : List ℕ) × (line ≡ 115 ∷ 47 ∷ rest))
substitution-words line = (
  λ e. let s = has_some (after (115 ∷ 47 ∷ []) line) e in (s.0, after-takes (115 ∷ 47 ∷ []) line s.0 s.1),
  λ h. rw (h.1, after-again (115 ∷ 47 ∷ []) h.0) refl,
)
