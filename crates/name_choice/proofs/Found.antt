-- Whether a chosen target is in the tree.
use Rattle.std.proofs.Common.{◌≡◌, ℕ, zero, suc, ◌<◌, ◌≤◌, List, [], ◌∷◌, length, get_or, slice_get, Bool, true, false, cond, ltb, Option, None, Some, Result, Ok, Err, refl, sym, ap, subst, ◌∙◌, arith}
use Rattle.std.specs.Prelude.{IfSome, IfOk}
use Rattle.std.specs.List.{position, position_or_len}
use Rattle.std.specs.Option.{option_map_or}
use Rattle.std.proofs.lemmas.Bool.{ltb-false}
use Rattle.std.proofs.lemmas.List.Quantifiers.{position-Some}
use Rattle.std.proofs.lemmas.List.Sums.{fails_before_first}
use Rattle.outside.specs.Files.{Files}
use Rattle.outside.specs.TreeView.{TreeView}
use Rattle.outside.specs.declared.Failed.{Failed}
use Rattle.read_file_patch.specs.declared.derived.Target.{Target}
use Rattle.name_choice.specs.declared.Choice.{Choice}
use Rattle.name_choice.specs.declared.Choice.TheVariants.{Existing}
use Rattle.name_choice.specs.Better.{best_among, name_at, IsBest, IsNone}
use Rattle.name_choice.specs.Choice.{is_there, needs_fewest, names_of, first_place, created, existing_or, existing, to_create, choice_among, is_there_at, existing_if, IsFound}
use Rattle.name_choice.proofs.Best.{best-law, none-law}
use Rattle.name_choice.proofs.Walked.{named-at, names-count}

-- the name at a place that there is
get-there : (names : List (List ℕ)) (k : ℕ) → k < length names → slice_get names k ≡ Some (name_at names k)
get-there [] k lt = absurd (omega (arith, lt))
get-there (n ∷ names) zero lt = refl
get-there (n ∷ names) (suc k) lt = get-there names k (omega (arith, lt))

get-none : (names : List (List ℕ)) (k : ℕ) → length names ≤ k → slice_get names k ≡ None
get-none [] k past = refl
get-none (n ∷ names) zero past = absurd (omega (arith, past))
get-none (n ∷ names) (suc k) past = get-none names k (omega (arith, past))

-- where no name passes a test, each fails it
none-passes : (test : List ℕ → Bool) (names : List (List ℕ)) → position test names ≡ None → (j : ℕ) → j < length names → test (name_at names j) ≡ false
none-passes test names is j lt = by (ltb (position_or_len test names) (length names)) refl is
  where
    by : (v : Bool) → ltb (position_or_len test names) (length names) ≡ v → cond v (Some (position_or_len test names)) None ≡ None → test (name_at names j) ≡ false
    by true e is = absurd cc
    by false e is = fails_before_first test names j [] (let far = ltb-false (position_or_len test names) (length names) e in omega (arith, lt, far))

module _ (targets : List Target) (files : Files) where
  at_place : (k : ℕ) (b : Bool) (t : Target) → k < length (names_of targets) → is_there files (name_at (names_of targets) k) ≡ b → t ≡ get_or targets k t → is_there files t.name ≡ b
  at_place k b t lt is at = ap (is_there files) (named-at targets k t (let e = names-count targets in omega (arith, lt, e)) at) ∙ is

  existing-found : (k : ℕ) → IsBest (is_there files) (names_of targets) k → IsFound targets files (Existing k)
  existing-found k b = λ t at. at_place k true t b.within b.admitted at

  created-missing : (o : Option ℕ) → IsNone (is_there files) (names_of targets) → IfSome o (λ k. k < length (names_of targets)) → IsFound targets files (created o)
  created-missing None none within = tt
  created-missing (Some k) none within = λ t at. at_place k false t within (none k within) at

  first-within : (names : List (List ℕ)) → IfSome (first_place names) (λ k. k < length names)
  first-within [] = tt
  first-within (n ∷ ns) = omega arith

  best-within : (admits : List ℕ → Bool) (names : List (List ℕ)) (o : Option ℕ) → best_among admits names ≡ o → IfSome o (λ k. k < length names)
  best-within admits names None is = tt
  best-within admits names (Some k) is = ((best-law admits names k).0 is).within

  other-found : (operand creates posix : Bool) → IsNone (is_there files) (names_of targets) → IsFound targets files (to_create (names_of targets) operand creates posix files)
  other-found true creates posix none = created-missing (first_place (names_of targets)) none (first-within (names_of targets))
  other-found false true false none = created-missing (best_among (needs_fewest files (names_of targets)) (names_of targets)) none (best-within (needs_fewest files (names_of targets)) (names_of targets) _ refl)
  other-found false true true none = tt
  other-found false false posix none = tt

  -- the first that is there
  first-there : (k : ℕ) → position (is_there files) (names_of targets) ≡ Some k → IsFound targets files (Existing k)
  first-there k is =
      let at = position-Some (is_there files) (names_of targets) k [] is in
      λ t e. at_place k true t at.0 at.1 e

  first-none : position (is_there files) (names_of targets) ≡ None → IsNone (is_there files) (names_of targets)
  first-none is = λ j lt. none-passes (is_there files) (names_of targets) is j lt

  existing-there : (posix : Bool) (k : ℕ) → existing posix files (names_of targets) ≡ Some k → IsFound targets files (Existing k)
  existing-there true k is = first-there k is
  existing-there false k is = existing-found k ((best-law (is_there files) (names_of targets) k).0 is)

  existing-none : (posix : Bool) → existing posix files (names_of targets) ≡ None → IsNone (is_there files) (names_of targets)
  existing-none true is = first-none is
  existing-none false is = (none-law (is_there files) (names_of targets)).0 is

  pub choice-found : (operand creates posix : Bool) → IsFound targets files (choice_among (names_of targets) operand creates posix files)
  unfolding choice_among
  choice-found operand creates posix = by (existing posix files (names_of targets)) refl
    where
      by : (o : Option ℕ) → existing posix files (names_of targets) ≡ o → IsFound targets files (existing_or (to_create (names_of targets) operand creates posix files) o)
      by None is = other-found operand creates posix (existing-none posix is)
      by (Some k) is = existing-there posix k is

-- what is known of a choice that is the one of the definition
pub found-from : (targets : List Target) (files : Files) (operand creates posix : Bool) (c : Choice) → c ≡ choice_among (names_of targets) operand creates posix files → IsFound targets files c
found-from targets files operand creates posix c is = subst (IsFound targets files) (sym is) (choice-found targets files operand creates posix)

-- the same of an answer over a tree that tells what it told
pub found-after : (u v : TreeView) (targets : List Target) (operand creates posix : Bool) (r : Result Choice Failed) → v.told ≡ u.told
    → IfOk r (λ c. (files : Files) → u.told ≡ Some files → c ≡ choice_among (names_of targets) operand creates posix files)
    → IfOk r (λ c. (files : Files) → v.told ≡ Some files → IsFound targets files c)
found-after u v targets operand creates posix (Ok c) same is = λ files told. found-from targets files operand creates posix c (is files (sym same ∙ told))
found-after u v targets operand creates posix (Err e) same is = tt

-- ---- renames and copies

-- the name at a place is there
pub moved-found : (targets : List Target) (files : Files) (k : ℕ) (b : Bool) → b ≡ is_there_at files (names_of targets) k → k < length targets → IsFound targets files (existing_if b k)
moved-found targets files k false is lt = tt
moved-found targets files k true is lt = λ t at. there t at
  where
    there : (t : Target) → t ≡ get_or targets k t → is_there files t.name ≡ true
    there t at =
        let same : t.name ≡ name_at (names_of targets) k = named-at targets k t lt at in
        let here : slice_get (names_of targets) k ≡ Some (name_at (names_of targets) k) = get-there (names_of targets) k (let e = names-count targets in omega (arith, lt, e)) in
        ap (is_there files) same ∙ sym (ap (λ o. option_map_or (is_there files) o false) here) ∙ sym is

-- the same after a test of the name at a place, over a tree that tells what it told
pub moved-after : (u v : TreeView) (targets : List Target) (k : ℕ) (b : Bool) → v.told ≡ u.told → ((files : Files) → u.told ≡ Some files → b ≡ is_there_at files (names_of targets) k) → (b ≡ true → k < length targets)
    → (files : Files) → v.told ≡ Some files → IsFound targets files (existing_if b k)
moved-after u v targets k false same is lt files told = tt
moved-after u v targets k true same is lt files told = moved-found targets files k true (is files (sym same ∙ told)) (lt refl)

-- the name at a place, by the target there
pub there-at : (files : Files) (targets : List Target) (k : ℕ) (t : Target) (b : Bool) → k < length targets → t ≡ get_or targets k t → b ≡ is_there files t.name → b ≡ is_there_at files (names_of targets) k
there-at files targets k t b lt at is =
    let here : slice_get (names_of targets) k ≡ Some (name_at (names_of targets) k) = get-there (names_of targets) k (let e = names-count targets in omega (arith, lt, e)) in
    is ∙ ap (is_there files) (named-at targets k t lt at) ∙ sym (ap (λ o. option_map_or (is_there files) o false) here)

pub nowhere-at : (files : Files) (targets : List Target) (k : ℕ) → length targets ≤ k → false ≡ is_there_at files (names_of targets) k
nowhere-at files targets k past = sym (ap (λ o. option_map_or (is_there files) o false) (get-none (names_of targets) k (let e = names-count targets in omega (arith, past, e))))
