-- What the definitions come to, in words of their own.
use Rattle.std.proofs.Common.{◌≡◌, ◌≢◌, ⊎_elim, ℕ, ◌<◌, ◌≤◌, ◌^◌, List, [], ◌∷◌, ◌++◌, Bool, true, false, ◌&&◌, cond, leb, bytes_eq, is_some, Option, Some, None, refl, sym, ◌∙◌, ap, subst, arith}
use Rattle.std.proofs.lemmas.Bool.{leb-true, le-leb}
use Rattle.std.specs.FinMap.{get, insert, remove}
use Rattle.num_text.specs.Numbers.{decimal}
use Rattle.outside.specs.Files.{Files, is_temp, temp_of}
use Rattle.outside.specs.Quiet.{Effect, after, after_all}
use Rattle.outside.specs.Quiet.Effect.{Put, Remove}
use Rattle.outside.proofs.Names.{equal_or_not, get-put, get-put_other, get-gone, get-gone_other, apart, temp_of_is_temp}
use Rattle.series_stack.specs.Texts.{first_number}
use Rattle.series_stack.specs.Count.{count_of, count_text, counted}
use Rattle.series_stack.specs.Saves.{Entry}
use Rattle.series_stack.specs.Saves.Entry.{Missing, Held}
use Rattle.series_stack.specs.Restoring.{effects_of, restored, saved_at}
use Rattle.series_stack.proofs.Fronts.{number-sound, number-behind, same_bytes, bytes_same}
use Rattle.series_stack.proofs.Steps.{restored-cons, restoring-nil}

-- ---- counts
counted-sound : (most n : ℕ) (text : List ℕ) (o : Option (ℕ × List ℕ)) → first_number text ≡ o → counted most o ≡ Some n → (text ≡ count_text n) × (n ≤ most)
counted-sound most n text None first e = absurd cc
counted-sound most n text (Some x) first e = by (bytes_eq x.1 (10 ∷ [])) refl (leb x.0 most) refl e
  where
    by : (a : Bool) → bytes_eq x.1 (10 ∷ []) ≡ a → (b : Bool) → leb x.0 most ≡ b → cond (a && b) (Some x.0) None ≡ Some n → (text ≡ count_text n) × (n ≤ most)
    by true p true q h =
        let same : x.0 ≡ n = cc in
        subst (λ (m : ℕ). (text ≡ count_text m) × (m ≤ most)) same
        ((number-sound text x first).0 ∙ ap (λ (l : List ℕ). decimal x.0 ++ l) (same_bytes x.1 (10 ∷ []) p), leb-true x.0 most q)
    by true p false q h = absurd cc
    by false p b q h = absurd cc

pub count-sound : (most n : ℕ) (text : List ℕ) → count_of most text ≡ Some n → (text ≡ count_text n) × (n ≤ most)
unfolding count_of
count-sound most n text e = counted-sound most n text (first_number text) refl e

pub count-again : (most n : ℕ) (text : List ℕ) → most < 2 ^ 32 → text ≡ count_text n → n ≤ most → count_of most text ≡ Some n
unfolding count_of
count-again most n text small is le =
    let few : leb n most ≡ true = le-leb n most le in
    ap (λ (l : List ℕ). counted most (first_number l)) is
    ∙ ap (λ o. counted most o) (number-behind n (10 ∷ []) (let lt : n < 2 ^ 32 = omega (arith, small, le) in lt) refl)
    ∙ rw few refl

-- ---- a count that is read
pub counted-yes : (most : ℕ) (text : List ℕ) (x : ℕ × List ℕ) → Some x ≡ first_number text → (bytes_eq x.1 (10 ∷ []) && leb x.0 most) ≡ true → Some x.0 ≡ count_of most text
unfolding count_of
counted-yes most text x is holds = (let h : counted most (Some x) ≡ Some x.0 = rw holds refl in sym h) ∙ ap (λ o. counted most o) is

pub counted-no : (most : ℕ) (text : List ℕ) (x : ℕ × List ℕ) → Some x ≡ first_number text → (bytes_eq x.1 (10 ∷ []) && leb x.0 most) ≡ false → ◌≡◌ {A = Option ℕ} None (count_of most text)
unfolding count_of
counted-no most text x is fails = (let h : counted most (Some x) ≡ None = rw fails refl in sym h) ∙ ap (λ o. counted most o) is

pub counted-none : (most : ℕ) (text : List ℕ) → ◌≡◌ {A = Option (ℕ × List ℕ)} None (first_number text) → ◌≡◌ {A = Option ℕ} None (count_of most text)
unfolding count_of
counted-none most text is = ap (λ o. counted most o) is

-- ---- what names stand for once a save is restored
other_bytes : (a b : List ℕ) → b ≢ a → bytes_eq a b ≡ false
other_bytes a b ne = by (bytes_eq a b) refl
  where
    by : (v : Bool) → bytes_eq a b ≡ v → v ≡ false
    by true is = absurd (ne (sym (same_bytes a b is)))
    by false is = refl

pub put-at : (name bytes : List ℕ) (f : Files) (q : List ℕ) → is_temp q ≡ false → get (after (Put name bytes) f) q ≡ cond (bytes_eq name q) (Some bytes) (get f q)
put-at name bytes f q lasting =
    get-gone_other (insert f name bytes) (temp_of name) q (apart q (temp_of name) lasting (temp_of_is_temp name))
    ∙ ⊎_elim
    (λ (eq : q ≡ name). subst (λ (n : List ℕ). get (insert f n bytes) q ≡ cond (bytes_eq n q) (Some bytes) (get f q)) eq (get-put f q bytes ∙ sym (rw (bytes_same q) refl)))
    (λ (ne : q ≢ name). get-put_other f name bytes q ne ∙ sym (rw (other_bytes name q ne) refl))
    (equal_or_not q name)

pub gone-at : (name : List ℕ) (f : Files) (q : List ℕ) → get (remove f name) q ≡ cond (bytes_eq name q) None (get f q)
gone-at name f q = ⊎_elim
    (λ (eq : q ≡ name). subst (λ (n : List ℕ). get (remove f n) q ≡ cond (bytes_eq n q) None (get f q)) eq (get-gone f q ∙ sym (rw (bytes_same q) refl)))
    (λ (ne : q ≢ name). get-gone_other f name q ne ∙ sym (rw (other_bytes name q ne) refl))
    (equal_or_not q name)

absent-at : (name : List ℕ) (f : Files) (q : List ℕ) → get f name ≡ None → get f q ≡ cond (bytes_eq name q) None (get f q)
absent-at name f q none = ⊎_elim
    (λ (eq : q ≡ name). ap (λ (n : List ℕ). get f n) eq ∙ none ∙ sym (rw (ap (λ (n : List ℕ). bytes_eq n q) (sym eq) ∙ bytes_same q) refl))
    (λ (ne : q ≢ name). sym (rw (other_bytes name q ne) refl))
    (equal_or_not q name)

missing-at : (name : List ℕ) (f : Files) (q : List ℕ) (o : Option (List ℕ)) → get f name ≡ o → get (after_all (cond (is_some o) (Remove name ∷ []) []) f) q ≡ cond (bytes_eq name q) None (get f q)
missing-at name f q None none = absent-at name f q none
missing-at name f q (Some b) some = gone-at name f q

pub restored-at : (es : List Entry) (f : Files) (q : List ℕ) → is_temp q ≡ false → get (restored es f) q ≡ saved_at es q (get f q)
unfolding saved_at
restored-at [] f q lasting = ap (λ (l : List Effect). get (after_all l f) q) (restoring-nil f)
restored-at (Missing name ∷ es) f q lasting =
    ap (λ (g : Files). get g q) (restored-cons (Missing name) es f)
    ∙ restored-at es (after_all (effects_of (Missing name) f) f) q lasting
    ∙ ap (λ o. saved_at es q o) (missing-at name f q (get f name) refl)
restored-at (Held name bytes ∷ es) f q lasting =
    ap (λ (g : Files). get g q) (restored-cons (Held name bytes) es f)
    ∙ restored-at es (after_all (effects_of (Held name bytes) f) f) q lasting
    ∙ ap (λ o. saved_at es q o) (put-at name bytes f q lasting)
