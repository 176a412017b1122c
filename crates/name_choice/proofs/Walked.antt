-- The best name so far with its counts, over a tree.
use Rattle.std.proofs.Common.{◌≡◌, ℕ, suc, ◌+◌, ◌<◌, List, [], length, get_or, Bool, true, false, cond, Option, None, Some, refl, sym, ap, ◌∙◌, arith}
use Rattle.std.specs.Prelude.{IfSome}
use Rattle.outside.specs.Files.{Files}
use Rattle.outside.specs.TreeView.{TreeView}
use Rattle.outside.specs.Calls.{IsUntouched, untouched_none, untouched_both}
use Rattle.name_choice.specs.declared.rank.Best.{Best}
use Rattle.name_choice.specs.Better.{is_better, best_among, name_at}
use Rattle.name_choice.specs.Choice.{is_there, new_directories, needs_fewest, names_of}
use Rattle.name_choice.specs.Rank.{rank_of, precedes, better_of, best_at, best_with, place_of}
use Rattle.std.proofs.lemmas.List.{get_or-map, length-map}
use Rattle.read_file_patch.specs.declared.derived.Target.{Target}
use Rattle.name_choice.proofs.Best.{pick, walk, all-walked}
use Rattle.name_choice.proofs.Fewest.{nearer, fewest-walked}

module _ (admits : List ℕ → Bool) (directories : List ℕ → ℕ) (names : List (List ℕ)) where
  -- the name at a place with its counts
  abbrev pub counted_at : ℕ → Best
  counted_at k = best_at k (directories (name_at names k)) (name_at names k)

  -- what is held where the best stands at a place
  abbrev pub held : Option ℕ → Option Best
  held None = None
  held (Some k) = Some (counted_at k)

  -- the best of the first i names is held
  pub record IsHeld (i : ℕ) (best : Option Best) : Type 0 where
    pub is : best ≡ held (walk admits (nearer directories) names i)

  picked : (i : ℕ) (p : Option ℕ) → Some (better_of (held p) (counted_at i)) ≡ held (Some (pick admits (nearer directories) names p i))
  picked i None = refl
  picked i (Some k) = elim (nearer directories (name_at names i) (name_at names k)) as (λ b. Some (cond b (counted_at i) (counted_at k)) ≡ held (Some (cond b i k))) [ true ↦ refl | false ↦ refl ]

  with_next : (i : ℕ) → best_with (held (walk admits (nearer directories) names i)) (admits (name_at names i)) (counted_at i) ≡ held (walk admits (nearer directories) names (suc i))
  with_next i = elim (admits (name_at names i)) as (λ b. best_with (held (walk admits (nearer directories) names i)) b (counted_at i) ≡ held (cond b (Some (pick admits (nearer directories) names (walk admits (nearer directories) names i) i)) (walk admits (nearer directories) names i))) [
    | true ↦ picked i (walk admits (nearer directories) names i)
    | false ↦ refl
  ]

  pub held-more : (i : ℕ) (best : Option Best) (counts : Bool) (d : ℕ) (name : List ℕ) → IsHeld i best → counts ≡ admits name → d ≡ directories name → name ≡ name_at names i → IsHeld (i + 1) (best_with best counts (best_at i d name))
  held-more i best counts d name h c e at =
      let here : counts ≡ admits (name_at names i) = c ∙ ap admits at in
      let near : d ≡ directories (name_at names i) = e ∙ ap directories at in
      let more : suc i ≡ i + 1 = omega arith in
      record { is = rw (h.is, here, near, at, sym more) (with_next i) }

  pub held-place : (p : Option ℕ) → place_of (held p) ≡ p
  held-place None = refl
  held-place (Some k) = refl

-- the walk over the first i names, where the tree is told
pub record IsWalked (old new : TreeView) (admits : Files → List ℕ → Bool) (directories : Files → List ℕ → ℕ) (names : List (List ℕ)) (i : ℕ) (best : Option Best) : Type 0 where
  pub untouched : IsUntouched old new
  pub within : IfSome best (λ b. b.place < i)
  pub held : (files : Files) → old.told ≡ Some files → IsHeld (admits files) (directories files) names i best

pub walk-start : (v : TreeView) (admits : Files → List ℕ → Bool) (directories : Files → List ℕ → ℕ) (names : List (List ℕ)) → IsWalked v v admits directories names 0 None
walk-start v admits directories names = record { untouched = untouched_none v; within = tt; held = λ files told. record { is = refl } }

within-more : (i : ℕ) (best : Option Best) (counts : Bool) (d : ℕ) (name : List ℕ) → IfSome best (λ b. b.place < i) → IfSome (best_with best counts (best_at i d name)) (λ b. b.place < i + 1)
within-more i None true d name w = omega arith
within-more i None false d name w = tt
within-more i (Some b) true d name w = elim (precedes (rank_of d name) b.rank) as (λ t. (cond t (best_at i d name) b).place < i + 1) [ true ↦ omega arith | false ↦ omega (arith, w) ]
within-more i (Some b) false d name w = omega (arith, w)

-- one name more
pub walk-more : (u v w : TreeView) (admits : Files → List ℕ → Bool) (directories : Files → List ℕ → ℕ) (names : List (List ℕ)) (i : ℕ) (best : Option Best) (counts : Bool) (d : ℕ) (name : List ℕ)
    → IsWalked u v admits directories names i best → IsUntouched v w
    → ((files : Files) → v.told ≡ Some files → counts ≡ admits files name) → ((files : Files) → v.told ≡ Some files → d ≡ directories files name)
    → name ≡ name_at names i → IsWalked u w admits directories names (i + 1) (best_with best counts (best_at i d name))
walk-more u v w admits directories names i best counts d name s call c e at = record {
  untouched = untouched_both s.untouched call;
  within = within-more i best counts d name s.within;
  held = λ files told. let now = s.untouched.told ∙ told in held-more (admits files) (directories files) names i best counts d name (s.held files told) (c files now) (e files now) at;
}

-- the place of what is held
pub place-within : (n : ℕ) (best : Option Best) → IfSome best (λ b. b.place < n) → IfSome (place_of best) (λ k. k < n)
place-within n None w = tt
place-within n (Some b) w = w

pub existing-end : (u v : TreeView) (names : List (List ℕ)) (n : ℕ) (best : Option Best) → IsWalked u v is_there (λ files name. 0) names n best → n ≡ length names → (files : Files) → u.told ≡ Some files → place_of best ≡ best_among (is_there files) names
existing-end u v names n best s all files told =
    ap place_of ((s.held files told).is) ∙ held-place (is_there files) (λ name. 0) names (walk (is_there files) is_better names n) ∙ ap (walk (is_there files) is_better names) all ∙ all-walked (is_there files) names

pub new-end : (u v : TreeView) (names : List (List ℕ)) (n : ℕ) (best : Option Best) → IsWalked u v (λ files name. true) new_directories names n best → n ≡ length names → (files : Files) → u.told ≡ Some files → place_of best ≡ best_among (needs_fewest files names) names
new-end u v names n best s all files told =
    ap place_of ((s.held files told).is) ∙ held-place (λ name. true) (new_directories files) names (walk (λ name. true) (nearer (new_directories files)) names n) ∙ ap (walk (λ name. true) (nearer (new_directories files)) names) all ∙ fewest-walked files names

pub named-at : (targets : List Target) (i : ℕ) (t : Target) → i < length targets → t ≡ get_or targets i t → t.name ≡ name_at (names_of targets) i
named-at targets i t lt is = ap (λ x. x.name) is ∙ sym (get_or-map (λ x. x.name) targets i t [] lt)

pub names-count : (targets : List Target) → length targets ≡ length (names_of targets)
names-count targets = sym (length-map targets (λ x. x.name))
