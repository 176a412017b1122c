-- How many directories of a name are new.
use Rattle.std.proofs.Common.{◌≡◌, ℕ, suc, ◌+◌, ◌-◌, ◌<◌, ◌≤◌, List, [], ◌∷◌, length, take, get_or, Bool, true, false, cond, not, ◌||◌, Some, refl, sym, ap, subst, ◌∙◌, arith, ◌↔◌}
use Rattle.std.specs.Prelude.{IsTrue, count_by, nat_eq}
use Rattle.std.specs.List.{list_any, starts_with, range_with_len}
use Rattle.std.specs.Ordering.{nat_cmp, eq_by_cmp}
use Rattle.std.specs.Cmp.Lexicographic.{slice_cmp}
use Rattle.std.specs.FinMap.{keys, contains_key-keys}
use Rattle.std.proofs.lemmas.Cmp.{nat_list_cmp_total, eq_by_cmp_equiv}
use Rattle.std.proofs.lemmas.Map.Views.{tells_apart}
use Rattle.std.proofs.lemmas.Map.Lookups.{exact_bytes}
use Rattle.std.proofs.lemmas.Bool.{false≢true}
use Rattle.std.proofs.lemmas.List.{take_all}
use Rattle.std.proofs.lemmas.List.Sums.{count_by_more_no, count_by_more_yes}
use Rattle.std.proofs.lemmas.List.FromFn.{length-range_with_len, get_or-range_with_len}
use Rattle.std.proofs.lemmas.List.Folds.{list_any_at}
use Rattle.outside.specs.Files.{Files, HasFileBelow}
use Rattle.outside.specs.TreeView.{TreeView}
use Rattle.outside.specs.Calls.{IsUntouched, untouched_none, untouched_both}
use Rattle.outside.specs.Names.{components}
use Rattle.name_choice.specs.Choice.{has_file_below, is_new_directory, new_directories}

-- ---- the test of a directory

found : (p : List ℕ → Bool) (xs : List (List ℕ)) → list_any p xs ≡ true → (k : ℕ) × (k < length xs) × (p (get_or xs k []) ≡ true)
found p [] is = absurd (false≢true is)
found p (x ∷ xs) is = elim (p x) as (λ b. p x ≡ b → (b || list_any p xs) ≡ true → (k : ℕ) × (k < length (x ∷ xs)) × (p (get_or (x ∷ xs) k []) ≡ true)) [
  | true ↦ λ here any. (0, omega arith, here)
  | false ↦ λ here any. let rest = found p xs any in (suc rest.0, omega (arith, rest.1), rest.2)
] refl is

pub below-found : (files : Files) (d : List ℕ) → has_file_below files d ≡ true → HasFileBelow files d
below-found files d is =
    let x = found (λ q. starts_with nat_eq q d) (keys files) is in
    let q = get_or (keys files) x.0 [] in
    (q, (contains_key-keys files q ∙ list_any_at (eq_by_cmp (slice_cmp nat_cmp) q) (keys files) x.0 [] x.1 ((eq_by_cmp_equiv nat_list_cmp_total).refl q), x.2))

pub below-there : (files : Files) (d : List ℕ) → HasFileBelow files d → has_file_below files d ≡ true
below-there files d (q, (some, starts)) =
    let y = found (eq_by_cmp (slice_cmp nat_cmp) q) (keys files) (sym (contains_key-keys files q) ∙ some) in
    let same : q ≡ get_or (keys files) y.0 [] = tells_apart exact_bytes q (get_or (keys files) y.0 []) y.2 in
    list_any_at (λ k. starts_with nat_eq k d) (keys files) y.0 [] y.1 (subst (λ k. starts_with nat_eq k d ≡ true) same starts)

pub below-test : (files : Files) (d : List ℕ) (b : Bool) → (IsTrue b ↔ HasFileBelow files d) → not b ≡ not (has_file_below files d)
below-test files d b both = ap not (elim b as (λ t. (IsTrue t ↔ HasFileBelow files d) → t ≡ has_file_below files d) [
  | true ↦ λ x. sym (below-there files d (x.0 refl))
  | false ↦ λ x. elim (has_file_below files d) as (λ t. has_file_below files d ≡ t → false ≡ t) [
    | true ↦ λ is. x.1 (below-found files d is)
    | false ↦ λ is. refl
  ] refl
] both)

-- ---- the count so far

-- of the first directories of a name with n components, those below this number of parts
abbrev pub so_far : (ℕ → Bool) → ℕ → ℕ → ℕ
so_far p n parts = count_by p (take (parts - 1) (range_with_len 1 (n - 1)))

pub count-start : (p : ℕ → Bool) (n : ℕ) → so_far p n 1 ≡ 0
count-start p n = refl

pub count-more : (p : ℕ → Bool) (n parts : ℕ) (b : Bool) → 1 ≤ parts → parts < n → b ≡ p parts → so_far p n (parts + 1) ≡ so_far p n parts + cond b 1 0
count-more p n parts b low high is =
    let i : ℕ = parts - 1 in
    let lt : i < length (range_with_len 1 (n - 1)) = rw (length-range_with_len 1 (n - 1)) (omega arith) in
    let at : get_or (range_with_len 1 (n - 1)) i 0 ≡ parts = get_or-range_with_len 1 (n - 1) i 0 (omega arith) ∙ omega arith in
    let next : (parts + 1) - 1 ≡ i + 1 = omega arith in
    ap (λ k. count_by p (take k (range_with_len 1 (n - 1)))) next ∙ elim b as (λ t. t ≡ p parts → count_by p (take (i + 1) (range_with_len 1 (n - 1))) ≡ count_by p (take i (range_with_len 1 (n - 1))) + cond t 1 0) [
      | true ↦ λ e. count_by_more_yes p (range_with_len 1 (n - 1)) i 0 lt (ap p at ∙ sym e)
      | false ↦ λ e. count_by_more_no p (range_with_len 1 (n - 1)) i 0 lt (ap p at ∙ sym e) ∙ omega arith
    ] is

pub count-end : (files : Files) (name : List ℕ) (n parts : ℕ) → n ≡ length (components name) → n ≤ parts → so_far (is_new_directory files name) n parts ≡ new_directories files name
unfolding new_directories
count-end files name n parts is all =
    ap (count_by (is_new_directory files name)) (take_all (parts - 1) (range_with_len 1 (n - 1)) (rw (length-range_with_len 1 (n - 1)) (omega arith)))
    ∙ ap (λ k. count_by (is_new_directory files name) (range_with_len 1 (k - 1))) is

-- the count over the first directories of a name with n components, where the tree is told
pub record IsCounted (old new : TreeView) (name : List ℕ) (n parts count : ℕ) : Type 0 where
  pub untouched : IsUntouched old new
  pub few : count < parts
  pub is : (files : Files) → old.told ≡ Some files → count ≡ so_far (is_new_directory files name) n parts

pub counted-start : (v : TreeView) (name : List ℕ) (n : ℕ) → IsCounted v v name n 1 0
counted-start v name n = record { untouched = untouched_none v; few = omega arith; is = λ files told. sym (count-start (is_new_directory files name) n) }

pub one : (b : Bool) → cond b 1 0 ≤ 1
one true = omega arith
one false = omega arith

pub counted-more : (u v w : TreeView) (name : List ℕ) (n parts count : ℕ) (b : Bool) → IsCounted u v name n parts count → IsUntouched v w → 1 ≤ parts → parts < n
    → ((files : Files) → v.told ≡ Some files → b ≡ is_new_directory files name parts) → IsCounted u w name n (parts + 1) (count + cond b 1 0)
counted-more u v w name n parts count b s call low high is = record {
  untouched = untouched_both s.untouched call;
  few = omega (arith, s.few, one b);
  is = λ files told. ap (λ k. k + cond b 1 0) (s.is files told) ∙ sym (count-more (is_new_directory files name) n parts b low high (is files (s.untouched.told ∙ told)));
}
