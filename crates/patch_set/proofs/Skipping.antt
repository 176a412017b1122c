-- The binary changes that are passed over, one line and one file patch after another.
use Rattle.std.proofs.Common.{◌≡◌, ℕ, zero, suc, ◌+◌, ◌<◌, ◌≤◌, Bool, true, false, not, ◌&&◌, ◌||◌, List, [], ◌∷◌, ◌++◌, Option, None, length, map, drop, get_or, slice_range, refl, sym, ap, ◌∙◌, arith, append_assoc}
use Rattle.std.specs.Prelude.{nat_lt}
use Rattle.std.proofs.lemmas.Bool.{le-ltb, lt-ltb}
use Rattle.std.proofs.lemmas.List.{append-nil, drop_all, length-map}
use Rattle.line_list.specs.Lines.{lines, IsLineAt}
use Rattle.patch_header.specs.Content.{is_binary}
use Rattle.read_file_patch.specs.declared.FilePatch.{FilePatch}
use Rattle.read_patch_text.specs.Regions.{Region, region_of}
use Rattle.patch_header.proofs.Rows.{line_length}
use Rattle.patch_set.specs.declared.skipped.BinaryChange.{BinaryChange}
use Rattle.patch_set.specs.Skipped.{is_outside, names_on, changes_if, skipped_from}

-- ---- file patches that end in front of a place

from-suc : (ps : List FilePatch) (k : ℕ) (p : FilePatch) → k < length ps → p ≡ get_or ps k p → drop k (map region_of ps) ≡ region_of p ∷ drop (suc k) (map region_of ps)
from-suc [] k p lt is = absurd (omega (arith, lt))
from-suc (q ∷ ps) zero p lt is = ap (λ (x : FilePatch). region_of x ∷ map region_of ps) (sym is)
from-suc (q ∷ ps) (suc k) p lt is = from-suc ps k p (omega (arith, lt)) is

add-one : (k : ℕ) → suc k ≡ k + 1
add-one k = omega arith

from-here : (ps : List FilePatch) (k : ℕ) (p : FilePatch) → k < length ps → p ≡ get_or ps k p → drop k (map region_of ps) ≡ region_of p ∷ drop (k + 1) (map region_of ps)
from-here ps k p lt is = from-suc ps k p lt is ∙ ap (λ n. region_of p ∷ drop n (map region_of ps)) (add-one k)

module _ (r : Region) (rs : List Region) (at : ℕ) where
  in-front : at < r.header.at → is_outside (r ∷ rs) at ≡ true
  in-front lt = ap (λ b. b || (not (nat_lt at r.end) && is_outside rs at)) (lt-ltb at r.header.at lt)

  inside : r.header.at ≤ at → at < r.end → is_outside (r ∷ rs) at ≡ false
  inside le lt =
      ap (λ b. b || (not (nat_lt at r.end) && is_outside rs at)) (le-ltb at r.header.at le)
      ∙ ap (λ b. not b && is_outside rs at) (lt-ltb at r.end lt)

  past : (place : ℕ) → r.header.at ≤ at → r.end ≤ at → at ≤ place → is_outside (r ∷ rs) place ≡ is_outside rs place
  past place le end on =
      ap (λ b. b || (not (nat_lt place r.end) && is_outside rs place)) (le-ltb place r.header.at (omega (arith, le, on)))
      ∙ ap (λ b. not b && is_outside rs place) (le-ltb place r.end (omega (arith, end, on)))

-- the search for the first that doesn't end in front of a place: those that were passed don't count from there on
pub record IsPast (ps : List FilePatch) (first next at : ℕ) : Type 0 where
  pub within : next ≤ length ps
  pub behind : (place : ℕ) → at ≤ place → is_outside (drop next (map region_of ps)) place ≡ is_outside (drop first (map region_of ps)) place

pub past-none : (ps : List FilePatch) (first at : ℕ) → first ≤ length ps → IsPast ps first first at
past-none ps first at le = record { within = le; behind = λ place on. refl }

module _ (ps : List FilePatch) (first next at : ℕ) (so : IsPast ps first next at) where
  module _ (p : FilePatch) (lt : next < length ps) (is : p ≡ get_or ps next p) where
    pub past-more : p.header.at ≤ at → p.span.end ≤ at → IsPast ps first (next + 1) at
    past-more le end = record {
      within = omega (arith, lt);
      behind = λ place on.
          sym (past (region_of p) (drop (next + 1) (map region_of ps)) at place le end on)
          ∙ ap (λ rs. is_outside rs place) (sym (from-here ps next p lt is))
          ∙ so.behind place on;
    }

    pub past-front : at < p.header.at → true ≡ is_outside (drop first (map region_of ps)) at
    past-front less =
        sym (in-front (region_of p) (drop (next + 1) (map region_of ps)) at less)
        ∙ ap (λ rs. is_outside rs at) (sym (from-here ps next p lt is))
        ∙ so.behind at (omega arith)

    pub past-within : p.header.at ≤ at → at < p.span.end → false ≡ is_outside (drop first (map region_of ps)) at
    past-within le less =
        sym (inside (region_of p) (drop (next + 1) (map region_of ps)) at le less)
        ∙ ap (λ rs. is_outside rs at) (sym (from-here ps next p lt is))
        ∙ so.behind at (omega arith)

  pub past-all : length ps ≤ next → true ≡ is_outside (drop first (map region_of ps)) at
  past-all all =
      ap (λ rs. is_outside rs at) (sym (drop_all next (map region_of ps) (omega (arith, all, length-map ps region_of))))
      ∙ so.behind at (omega arith)

-- ---- a line more

-- the lines up to a place were looked through
pub record HasLooked (text : List ℕ) (ps : List FilePatch) (found : List BinaryChange) (at number next : ℕ) (names : Option (List ℕ)) : Type 0 where
  pub within : at ≤ length text
  pub few : number ≤ at + 1
  pub all : found ++ skipped_from (map region_of ps) at number names (lines (drop at text)) ≡ skipped_from (map region_of ps) 0 1 None (lines text)
  pub next_within : next ≤ length ps
  pub behind : (place : ℕ) → at ≤ place → is_outside (drop next (map region_of ps)) place ≡ is_outside (map region_of ps) place

pub looked-none : (text : List ℕ) (ps : List FilePatch) → HasLooked text ps [] 0 1 0 None
looked-none text ps = record { within = omega arith; few = omega arith; all = refl; next_within = omega arith; behind = λ place on. refl }

skipped-more : (rs : List Region) (at number : ℕ) (names : Option (List ℕ)) (line : List ℕ) (rest : List (List ℕ))
    → skipped_from rs at number names (line ∷ rest) ≡ changes_if (is_outside rs at && is_binary line) number names line ++ skipped_from rs (at + length line) (number + 1) (names_on names (is_outside rs at) line) rest
unfolding skipped_from
skipped-more rs at number names line rest = refl

skipped-end : (rs : List Region) (at number : ℕ) (names : Option (List ℕ)) → skipped_from rs at number names [] ≡ []
unfolding skipped_from
skipped-end rs at number names = refl

pub looked-more : (text : List ℕ) (ps : List FilePatch) (found more : List BinaryChange) (at number next end later : ℕ) (names onward : Option (List ℕ)) (outside kept : Bool) → HasLooked text ps found at number next names → IsLineAt text at end
    → IsPast ps next later at → outside ≡ is_outside (drop next (map region_of ps)) at → kept ≡ (outside && is_binary (slice_range text at end)) → more ≡ found ++ changes_if kept number names (slice_range text at end)
    → onward ≡ names_on names outside (slice_range text at end) → HasLooked text ps more end (number + 1) later onward
looked-more text ps found more at number next end later names onward outside kept so line past is keeps adds goes =
    let rs = map region_of ps in
    let one = slice_range text at end in
    let rest = lines (drop end text) in
    let far : at + length one ≡ end = line_length text at end line in
    let low : at < end = line.low in
    let high : end ≤ length text = line.high in
    let here : outside ≡ is_outside rs at = is ∙ so.behind at (omega arith) in
    let told : kept ≡ (is_outside rs at && is_binary one) = keeps ∙ ap (λ b. b && is_binary one) here in
    let own = changes_if (is_outside rs at && is_binary one) number names one in
    record {
      within = high;
      few = omega (arith, so.few, low);
      all =
          ap (λ l. l ++ skipped_from rs end (number + 1) onward rest) (adds ∙ ap (λ b. found ++ changes_if b number names one) told)
          ∙ append_assoc found own (skipped_from rs end (number + 1) onward rest)
          ∙ ap (λ o. found ++ (own ++ skipped_from rs end (number + 1) o rest)) (goes ∙ ap (λ b. names_on names b one) here)
          ∙ ap (λ n. found ++ (own ++ skipped_from rs n (number + 1) (names_on names (is_outside rs at) one) rest)) (sym far)
          ∙ ap (λ l. found ++ l) (sym (skipped-more rs at number names one rest))
          ∙ ap (λ ls. found ++ skipped_from rs at number names ls) (sym line.first)
          ∙ so.all;
      next_within = past.within;
      behind = λ place on. past.behind place (omega (arith, on, low)) ∙ so.behind place (omega (arith, on, low));
    }

pub looked-all : (text : List ℕ) (ps : List FilePatch) (found : List BinaryChange) (at number next : ℕ) (names : Option (List ℕ)) → HasLooked text ps found at number next names → lines (drop at text) ≡ []
    → found ≡ skipped_from (map region_of ps) 0 1 None (lines text)
looked-all text ps found at number next names so none =
    sym (append-nil found)
    ∙ ap (λ l. found ++ l) (sym (skipped-end (map region_of ps) at number names))
    ∙ ap (λ ls. found ++ skipped_from (map region_of ps) at number names ls) (sym none)
    ∙ so.all
