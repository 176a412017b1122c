-- The file patch in which a place stands.
use Rattle.std.proofs.Common.{◌≡◌, ℕ, zero, suc, ◌+◌, ◌<◌, ◌≤◌, Bool, ◌||◌, cond, List, [], ◌∷◌, length, map, drop, get_or, Some, refl, sym, ap, ◌∙◌, arith}
use Rattle.std.specs.Prelude.{option_map}
use Rattle.std.specs.List.{list_any}
use Rattle.std.proofs.lemmas.Bool.{le-ltb, lt-ltb}
use Rattle.std.proofs.lemmas.List.{drop_all, length-map}
use Rattle.std.proofs.lemmas.Option.{slice_get-map, slice_get-get_or, slice_get_past}
use Rattle.read_file_patch.specs.declared.FilePatch.{FilePatch}
use Rattle.read_patch_text.specs.Regions.{Region, region_of}
use Rattle.read_clean_text.specs.Cleaned.{region_at}
use Rattle.read_clean_text.specs.Cleaning.{IsFoundFrom}

pub any-map : {A B : Type 0} (test : B → Bool) (f : A → B) (xs : List A) → list_any (λ x. test (f x)) xs ≡ list_any test (map f xs)
any-map test f [] = refl
any-map test f (x ∷ xs) = ap (λ b. test (f x) || b) (any-map test f xs)

from-suc : (ps : List FilePatch) (k : ℕ) (p : FilePatch) → k < length ps → p ≡ get_or ps k p → drop k (map region_of ps) ≡ region_of p ∷ drop (suc k) (map region_of ps)
from-suc [] k p lt is = absurd (omega (arith, lt))
from-suc (q ∷ ps) zero p lt is = ap (λ (x : FilePatch). region_of x ∷ map region_of ps) (sym is)
from-suc (q ∷ ps) (suc k) p lt is = from-suc ps k p (omega (arith, lt)) is

add-one : (k : ℕ) → suc k ≡ k + 1
add-one k = omega arith

from-here : (ps : List FilePatch) (k : ℕ) (p : FilePatch) → k < length ps → p ≡ get_or ps k p → drop k (map region_of ps) ≡ region_of p ∷ drop (k + 1) (map region_of ps)
from-here ps k p lt is = from-suc ps k p lt is ∙ ap (λ n. region_of p ∷ drop n (map region_of ps)) (add-one k)

module _ (r : Region) (rs : List Region) where
  inside : (at : ℕ) → at < r.end → region_at (r ∷ rs) at ≡ Some r
  inside at lt = ap (λ b. cond b (Some r) (region_at rs at)) (lt-ltb at r.end lt)

  past : (at place : ℕ) → r.end ≤ at → at ≤ place → region_at (r ∷ rs) place ≡ region_at rs place
  past at place end on = ap (λ b. cond b (Some r) (region_at rs place)) (le-ltb place r.end (omega (arith, end, on)))

-- those in front of one of them end in front of a place
pub record IsPast (ps : List FilePatch) (first next at : ℕ) : Type 0 where
  pub within : next ≤ length ps
  pub behind : (place : ℕ) → at ≤ place → region_at (drop next (map region_of ps)) place ≡ region_at (drop first (map region_of ps)) place

pub past-none : (ps : List FilePatch) (first at : ℕ) → first ≤ length ps → IsPast ps first first at
past-none ps first at le = record { within = le; behind = λ place on. refl }

module _ (ps : List FilePatch) (first next at : ℕ) (so : IsPast ps first next at) where
  module _ (p : FilePatch) (lt : next < length ps) (is : p ≡ get_or ps next p) where
    pub past-more : p.span.end ≤ at → IsPast ps first (next + 1) at
    past-more end = record {
      within = omega (arith, lt);
      behind = λ place on.
          sym (past (region_of p) (drop (next + 1) (map region_of ps)) at place end on)
          ∙ ap (λ rs. region_at rs place) (sym (from-here ps next p lt is))
          ∙ so.behind place on;
    }

    pub found : at < p.span.end → IsFoundFrom ps first next at
    found less = record {
      within = so.within;
      is =
          slice_get-map region_of ps next ∙ ap (option_map region_of) (slice_get-get_or ps next p lt ∙ ap Some (sym is))
          ∙ sym (inside (region_of p) (drop (next + 1) (map region_of ps)) at less)
          ∙ ap (λ rs. region_at rs at) (sym (from-here ps next p lt is))
          ∙ so.behind at (omega arith);
      behind = so.behind;
    }

  pub found-none : length ps ≤ next → IsFoundFrom ps first next at
  found-none all =
      let none : length (map region_of ps) ≤ next = omega (arith, all, length-map ps region_of) in
      record {
        within = so.within;
        is = slice_get_past (map region_of ps) next none ∙ ap (λ rs. region_at rs at) (sym (drop_all next (map region_of ps) none)) ∙ so.behind at (omega arith);
        behind = so.behind;
      }
