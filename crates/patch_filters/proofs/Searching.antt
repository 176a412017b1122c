-- A finder that is asked of one line after the other, up to the first hit.
use Rattle.std.proofs.Common.{◌≡◌, ℕ, ◌+◌, ◌≤◌, Bool, true, false, ◌||◌, List, length, get_or, take, Option, None, Some, Result, Ok, Err, IfOk, IsSome, refl, sym, ap, ◌∙◌}
use Rattle.std.specs.Prelude.{slice_get, is_some}
use Rattle.std.specs.List.{list_any}
use Rattle.std.proofs.lemmas.List.{take_all}
use Rattle.std.proofs.lemmas.List.Folds.{list_any_more, list_any_at}
use Rattle.std.proofs.lemmas.Option.{get_or_from_slice_get, slice_get_within}
use Rattle.outside.specs.FinderView.{FinderView, finder_passes_none, finder_passes_both}
use Rattle.patch_filters.specs.Grepped.{IsAsked, test_by, test_of}

-- ---- a finder that is asked

pub asked-none : (v : FinderView) → IsAsked v v
asked-none v = record { passes = finder_passes_none v; kept = refl }

pub asked-both : {u v w : FinderView} → IsAsked u v → IsAsked v w → IsAsked u w
asked-both a b = record { passes = finder_passes_both a.passes b.passes; kept = b.kept ∙ a.kept }

-- its test stays the same, and it may be asked again
pub same-test : {old new : FinderView} → IsAsked old new → test_of new ≡ test_of old
same-test {old = old} {new = new} a = ap (λ k. test_by k new.hit) a.kept ∙ ap (test_by old.kept) a.passes.hit

pub still-kept : {old new : FinderView} → IsAsked old new → IsSome old.kept → IsSome new.kept
still-kept a some = ap is_some a.kept ∙ some

-- what it answers is its test's answer
pub answers-test : {E : Type 0} (v : FinderView) (line : List ℕ) (r : Result Bool E) → IsSome v.kept → IfOk r (λ b. (pattern : List ℕ) → v.kept ≡ Some pattern → b ≡ v.hit pattern line) → IfOk r (λ b. b ≡ test_of v line)
answers-test v line (Err e) some is = tt
answers-test v line (Ok b) some is = by v.kept refl some
  where
    by : (kept : Option (List ℕ)) → v.kept ≡ kept → IsSome kept → b ≡ test_by kept v.hit line
    by None at some = absurd cc
    by (Some pattern) at some = is pattern at

-- ---- up to the first flag that is set; the flags are those of a test

module _ (flags : (List ℕ → Bool) → List Bool) where
  -- none of the first flags is set
  pub record HasNone (old mid : FinderView) (i : ℕ) : Type 0 where
    pub asked : IsAsked old mid
    pub none : list_any (λ is. is) (take i (flags (test_of old))) ≡ false

  pub flag-of : {old mid : FinderView} {f : Bool} (i : ℕ) → HasNone old mid i → slice_get (flags (test_of mid)) i ≡ Some f → slice_get (flags (test_of old)) i ≡ Some f
  flag-of i before is = ap (λ t. slice_get (flags t) i) (sym (same-test before.asked)) ∙ is

  pub none-more : {old mid new : FinderView} (i : ℕ) → HasNone old mid i → IsAsked mid new → slice_get (flags (test_of mid)) i ≡ Some false → HasNone old new (i + 1)
  none-more {old = old} i before asked is = record {
    asked = asked-both before.asked asked;
    none = (
        let here = flag-of i before is in
        list_any_more (λ is. is) (flags (test_of old)) i false (slice_get_within (flags (test_of old)) i false here)
        ∙ ap (λ b. b || get_or (flags (test_of old)) i false) before.none
        ∙ get_or_from_slice_get (flags (test_of old)) i false false here);
  }

  pub some-here : {old mid : FinderView} (i : ℕ) → HasNone old mid i → slice_get (flags (test_of mid)) i ≡ Some true → true ≡ list_any (λ is. is) (flags (test_of old))
  some-here {old = old} i before is =
      let here = flag-of i before is in
      sym (list_any_at (λ is. is) (flags (test_of old)) i false (slice_get_within (flags (test_of old)) i true here) (get_or_from_slice_get (flags (test_of old)) i true false here))

  pub none-there : {old mid : FinderView} (i : ℕ) → HasNone old mid i → length (flags (test_of old)) ≤ i → list_any (λ is. is) (flags (test_of old)) ≡ false
  none-there {old = old} i before le = ap (list_any (λ is. is)) (sym (take_all i (flags (test_of old)) le)) ∙ before.none
