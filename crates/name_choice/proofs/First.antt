-- The first of the names that is in the tree.
use Rattle.std.proofs.Common.{◌≡◌, ℕ, ◌+◌, ◌<◌, ◌⊎◌, inl, inr, ⊎_elim, List, [], length, Bool, true, false, None, Some, refl, sym, ap, ◌∙◌, arith}
use Rattle.std.specs.List.{position, position_or_len}
use Rattle.std.proofs.lemmas.Bool.{cases_lt, lt-ltb, le-ltb}
use Rattle.std.proofs.lemmas.List.Sums.{position_or_len_is}
use Rattle.outside.specs.Files.{Files}
use Rattle.outside.specs.TreeView.{TreeView}
use Rattle.outside.specs.Calls.{IsUntouched, untouched_none, untouched_both}
use Rattle.name_choice.specs.Better.{name_at}
use Rattle.name_choice.specs.Choice.{is_there}

last-or-before : (j i : ℕ) → j < i + 1 → (j ≡ i) ⊎ (j < i)
last-or-before j i lt = ⊎_elim (λ less. inr less) (λ more. inl (omega (arith, lt, more))) (cases_lt j i)

-- none of the first i names is there
pub record IsSought (old new : TreeView) (names : List (List ℕ)) (i : ℕ) : Type 0 where
  pub untouched : IsUntouched old new
  pub none : (files : Files) → old.told ≡ Some files → (j : ℕ) → j < i → is_there files (name_at names j) ≡ false

pub sought-start : (v : TreeView) (names : List (List ℕ)) → IsSought v v names 0
sought-start v names = record { untouched = untouched_none v; none = λ files told j lt. absurd (omega (arith, lt)) }

pub sought-more : (u v w : TreeView) (names : List (List ℕ)) (i : ℕ) (there : Bool) (name : List ℕ) → IsSought u v names i → IsUntouched v w
    → ((files : Files) → v.told ≡ Some files → there ≡ is_there files name) → there ≡ false → name ≡ name_at names i → IsSought u w names (i + 1)
sought-more u v w names i there name s call is absent at = record {
  untouched = untouched_both s.untouched call;
  none = λ files told j lt. ⊎_elim
      (λ same. ap (λ k. is_there files (name_at names k)) same ∙ ap (is_there files) (sym at) ∙ sym (is files (s.untouched.told ∙ told)) ∙ absent)
      (λ less. s.none files told j less)
      (last-or-before j i lt);
}

-- a name that is there, behind none that is
pub first-here : (u v : TreeView) (names : List (List ℕ)) (i : ℕ) (there : Bool) (name : List ℕ) → IsSought u v names i
    → ((files : Files) → v.told ≡ Some files → there ≡ is_there files name) → there ≡ true → name ≡ name_at names i → i < length names
    → (files : Files) → u.told ≡ Some files → Some i ≡ position (is_there files) names
first-here u v names i there name s is present at lt files told =
    let here : is_there files (name_at names i) ≡ true = ap (is_there files) (sym at) ∙ sym (is files (s.untouched.told ∙ told)) ∙ present in
    let place : position_or_len (is_there files) names ≡ i = position_or_len_is (is_there files) names i [] (omega (arith, lt)) (λ j less. s.none files told j less) (λ within. here) in
    sym (rw place (rw (lt-ltb i (length names) lt) refl))

-- none of all names is there
pub first-none : (u v : TreeView) (names : List (List ℕ)) (n : ℕ) → IsSought u v names n → n ≡ length names
    → (files : Files) → u.told ≡ Some files → None ≡ position (is_there files) names
first-none u v names n s all files told =
    let place : position_or_len (is_there files) names ≡ length names = position_or_len_is (is_there files) names (length names) [] (omega arith) (λ j less. s.none files told j (omega (arith, less, all))) (λ lt. absurd (omega (arith, lt))) in
    sym (rw place (rw (le-ltb (length names) (length names) (omega arith)) refl))
