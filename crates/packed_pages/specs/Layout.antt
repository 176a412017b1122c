-- What the entries and the pages of a scratch say.
use Rattle.std.specs.Prelude.{◌≡◌, ℕ, zero, suc, ◌+◌, ◌-◌, ◌*◌, ◌^◌, ◌<◌, ◌≤◌, List, [], length, take, drop, map, slice_index_or, nat_lt, Option, Some, None, ◌==◌, if◌then◌else◌, true, false, nat_eq}
use Rattle.std.proofs.Common.{refl, sym, ap, ◌∙◌, arith, inl, inr}
use Rattle.std.proofs.lemmas.Bool.{cases_eq}
use Rattle.std.proofs.lemmas.Bool.Decides.{nat_tests}
use Rattle.std.proofs.lemmas.List.FromFn.{length-map-range_with_len}
use Rattle.std.specs.Option.{option_map}
use Rattle.std.specs.List.{range_with_len}
use Rattle.std.specs.Int.{w64, from_le_bytes}
use Rattle.line_store.specs.Taking.{IsSize}
use Rattle.page_pair.specs.Records.{stated, line_in}
use Rattle.packed_pages.specs.declared.layout.Layout.{Layout}
use Rattle.packed_pages.specs.Packs.{records, joined, bytes_of}

-- so many lines on so many pages of one size
pub record IsLayout (l : Layout) : Type 0 where
  pub sized : IsSize l.size
  pub few : l.count ≤ 2 ^ 40
  pub pages : l.pages ≤ l.count
  pub some : 0 < l.count → 0 < l.pages

-- the number of the first line of a page, as its entry states; behind the last page, the number behind all lines
unfoldable pub first_line : Layout → List ℕ → ℕ → ℕ
first_line l b j = if nat_lt j l.pages then from_le_bytes w64 (take 8 (drop (j * 8) b)) else l.count + 1

-- a page of the scratch
unfoldable pub page_in : Layout → List ℕ → ℕ → List ℕ
page_in l b j = take l.size (drop (8 * l.pages + j * l.size) b)

-- the page of line k: the last one whose first line is not after it
pub record IsPageOf (l : Layout) (b : List ℕ) (k j : ℕ) : Type 0 where
  pub there : j < l.pages
  pub first : first_line l b j ≤ k
  pub last : (i : ℕ) → j < i → i < l.pages → k < first_line l b i

-- where the record that has i before it stands on a page
abbrev pub place_in : ℕ → List ℕ → ℕ
place_in zero page = 0
place_in (suc i) page = place_in i page + 4 + stated page (place_in i page)

-- the lines of a page: as many records as lie between its entry and the next one
unfoldable pub lines_on : Layout → List ℕ → ℕ → List (List ℕ)
lines_on l b j = map (λ i. line_in (page_in l b j) (place_in i (page_in l b j))) (range_with_len 0 (first_line l b (j + 1) - first_line l b j))

-- the lines of each page
unfoldable pub pages_in : Layout → List ℕ → List (List (List ℕ))
pages_in l b = map (lines_on l b) (range_with_len 0 l.pages)

-- the lines of all pages, as many as the layout counts
unfoldable pub decoded : Layout → List ℕ → List (List ℕ)
decoded l b = map (λ i. slice_index_or (joined (pages_in l b)) i []) (range_with_len 0 l.count)

-- the scratch holds the packed pages of the lines that it is read to hold, with their entries
pub record HasPacks (l : Layout) (b : List ℕ) : Type 0 where
  pub is : b ≡ bytes_of l.size (pages_in l b)
  pub counted : length (joined (pages_in l b)) ≡ l.count
  pub fits : (j : ℕ) → j < length (pages_in l b) → length (records (slice_index_or (pages_in l b) j [])) ≤ l.size

-- the lines that a scratch is told to hold; a layout without lines holds none, whatever is told
unfoldable pub lines_told : Layout → Option (List ℕ) → Option (List (List ℕ))
lines_told l told = if l.count == 0 then Some [] else option_map (decoded l) told

pub told-none : (l : Layout) (told : Option (List ℕ)) → l.count ≡ 0 → lines_told l told ≡ Some []
unfolding lines_told
told-none l told e = let t : nat_eq l.count 0 ≡ true = rw e refl in rw t refl

pub told-some : (l : Layout) (told : Option (List ℕ)) → 0 < l.count → lines_told l told ≡ option_map (decoded l) told
unfolding lines_told
told-some l told lt = let t : nat_eq l.count 0 ≡ false = grind (arith, nat_tests) in rw t refl

decoded-length : (l : Layout) (b : List ℕ) → length (decoded l b) ≡ l.count
unfolding decoded
decoded-length l b = length-map-range_with_len (λ i. slice_index_or (joined (pages_in l b)) i []) 0 l.count

mapped-count : (l : Layout) (told : Option (List ℕ)) (ls : List (List ℕ)) → option_map (decoded l) told ≡ Some ls → l.count ≡ length ls
mapped-count l None ls e = absurd cc
mapped-count l (Some b) ls e = let same : decoded l b ≡ ls = cc in sym (decoded-length l b) ∙ ap length same

-- a layout has as many lines as it says
pub decoded-count : (l : Layout) (told : Option (List ℕ)) (ls : List (List ℕ)) → lines_told l told ≡ Some ls → l.count ≡ length ls
decoded-count l told ls e = elim (cases_eq l.count 0) [
  | inl none ↦ none ∙ ap length (let same : Some [] ≡ Some ls = sym (told-none l told none) ∙ e in let is : [] ≡ ls = cc in is)
  | inr some ↦ mapped-count l told ls (sym (told-some l told (omega arith)) ∙ e)
]
