-- The names of a stack's own files: none is temporary, and none is another's or one that may be saved.
use Rattle.std.proofs.Common.{◌≡◌, ℕ, List, [], ◌∷◌, ◌++◌, codes, drop, Bool, true, false, not, bytes_eq, Option, Some, refl, sym, ◌∙◌, ap, subst, arith, nat_eq}
use Rattle.std.proofs.lemmas.Bool.{false≢true, and_parts}
use Rattle.std.proofs.lemmas.List.Prefix.{end_rest}
use Rattle.std.specs.Cmp.Lexicographic.{pointwise}
use Rattle.num_text.specs.Numbers.{decimal, is_digit, number_at, IsNumeral}
use Rattle.num_text.proofs.Decimal.{decimal-numeral}
use Rattle.num_text.proofs.Runs.{number-again}
use Rattle.outside.specs.Files.{is_temp}
use Rattle.series_stack.specs.Saves.{is_saved, is_of_stack}
use Rattle.series_stack.proofs.Fronts.{same_bytes, bytes_same}
use Rattle.series_stack.specs.Stack.{series_name, count_name, save_name}

-- ---- different texts
pub unequal : (a b : List ℕ) → (a ≡ b → ⊥) → bytes_eq a b ≡ false
unequal a b ne = by (bytes_eq a b) refl
  where
    by : (v : Bool) → bytes_eq a b ≡ v → v ≡ false
    by true is = absurd (ne (same_bytes a b is))
    by false is = refl

pub not_both : (v : Bool) → v ≡ true → v ≡ false → ⊥
not_both v yea nay = false≢true (sym nay ∙ yea)

-- ---- no temporaries
pub series-lasting : is_temp series_name ≡ false
unfolding is_temp
series-lasting = refl

pub count-lasting : is_temp count_name ≡ false
unfolding is_temp
count-lasting = refl

pub save-lasting : (k : ℕ) → is_temp (save_name k) ≡ false
unfolding is_temp save_name
save-lasting k = subst (λ (l : List ℕ). pointwise nat_eq (codes ".ptmp") l ≡ false) (sym (end_rest (save_name k) (codes ".save") (codes ".pc/" ++ decimal k) refl)) refl

-- ---- the stack's
pub series-own : is_of_stack series_name ≡ true
series-own = refl

pub count-own : is_of_stack count_name ≡ true
count-own = refl

pub save-own : (k : ℕ) → is_of_stack (save_name k) ≡ true
unfolding save_name
save-own k = refl

-- ---- one is not another
pub save-no_series : (k : ℕ) → bytes_eq (save_name k) series_name ≡ false
unfolding save_name
save-no_series k = refl

letter_first : (l rest more : List ℕ) (n : ℕ) → IsNumeral l n → 97 ∷ rest ≡ l ++ more → ⊥
letter_first [] rest more n numeral same = (let h = numeral.some in let no : ⊥ = omega (arith, h) in no)
letter_first (b ∷ bs) rest more n numeral same =
    let eq : 97 ≡ b = cc in
    not_both (is_digit b) numeral.digits.0 (subst (λ (m : ℕ). is_digit m ≡ false) eq refl)

pub count-no_save : (k : ℕ) → bytes_eq count_name (save_name k) ≡ false
unfolding save_name
count-no_save k = unequal count_name (save_name k) (λ same. letter_first (decimal k) (codes "pplied") (codes ".save") k (decimal-numeral k) (ap (λ (l : List ℕ). drop 4 l) same))

pub save-no_count : (k : ℕ) → bytes_eq (save_name k) count_name ≡ false
save-no_count k = unequal (save_name k) count_name (λ same. not_both (bytes_eq count_name (save_name k)) (ap (λ (l : List ℕ). bytes_eq count_name l) same ∙ bytes_same count_name) (count-no_save k))

same_number : (j k : ℕ) → save_name j ≡ save_name k → j ≡ k
unfolding save_name
same_number j k same =
    let rest : decimal j ++ codes ".save" ≡ decimal k ++ codes ".save" = ap (λ (l : List ℕ). drop 4 l) same in
    let x : number_at (decimal j ++ codes ".save") ≡ Some (j, codes ".save") = number-again (decimal j) j (codes ".save") (decimal-numeral j) refl in
    let y : number_at (decimal k ++ codes ".save") ≡ Some (k, codes ".save") = number-again (decimal k) k (codes ".save") (decimal-numeral k) refl in
    let z : ◌≡◌ {A = Option (ℕ × List ℕ)} (Some (j, codes ".save")) (Some (k, codes ".save")) = sym x ∙ ap number_at rest ∙ y in
    let first : ℕ × List ℕ = (j, codes ".save") in
    let other : ℕ × List ℕ = (k, codes ".save") in
    let both : first ≡ other = cc in
    ap (λ (p : ℕ × List ℕ). p.0) both

pub save-no_other : (j k : ℕ) → (j ≡ k → ⊥) → bytes_eq (save_name j) (save_name k) ≡ false
save-no_other j k ne = unequal (save_name j) (save_name k) (λ same. ne (same_number j k same))

-- ---- names that may be saved
not_true : (a : Bool) → not a ≡ true → a ≡ false
not_true true is = absurd cc
not_true false is = refl

pub saved-lasting : (name : List ℕ) → is_saved name ≡ true → (is_temp name ≡ false) × (is_of_stack name ≡ false)
saved-lasting name is =
    let a = and_parts _ _ is in
    let b = and_parts _ _ a.1 in
    let c = and_parts _ _ b.1 in
    (not_true (is_temp name) c.0, not_true (is_of_stack name) c.1)
