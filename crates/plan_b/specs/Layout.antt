-- Where the records of lines stand, and what they say.
use Rattle.std.specs.Prelude.{◌≡◌, ℕ, ◌+◌, ◌*◌, ◌/◌, ◌%◌, ◌^◌, ◌<◌, ◌≤◌, List, [], length, take, drop, map, Option, Some, None, ◌==◌, if◌then◌else◌, true, false, nat_eq}
use Rattle.std.proofs.Common.{refl, sym, ap, ◌∙◌, arith, inl, inr}
use Rattle.std.proofs.lemmas.Bool.{cases_eq}
use Rattle.std.proofs.lemmas.Bool.Decides.{nat_tests}
use Rattle.std.proofs.lemmas.List.FromFn.{length-map-range_with_len}
use Rattle.std.specs.Option.{option_map}
use Rattle.std.specs.List.{range_with_len}
use Rattle.page_pair.specs.Records.{stated, line_in}
use Rattle.line_store.specs.Taking.{IsSize}
use Rattle.plan_b.specs.declared.layout.Layout.{Layout}

-- records of a width of at least 4 bytes, as many to a page as fit it
pub record IsLayout (l : Layout) : Type 0 where
  pub sized : IsSize l.size
  pub low : 4 ≤ l.width
  pub high : l.width ≤ l.size
  pub per_page : l.per_page ≡ l.size / l.width
  pub few : l.count ≤ 2 ^ 40

-- the page of the record that has k before it
abbrev pub page_number : Layout → ℕ → ℕ
page_number l k = k / l.per_page

-- where it stands on its page
abbrev pub place_on_page : Layout → ℕ → ℕ
place_on_page l k = k % l.per_page * l.width

-- where it stands in the scratch
abbrev pub place_of : Layout → ℕ → ℕ
place_of l k = page_number l k * l.size + place_on_page l k

-- the lines that the records of a layout hold
unfoldable pub decoded : Layout → List ℕ → List (List ℕ)
decoded l bytes = map (λ k. line_in bytes (place_of l k)) (range_with_len 0 l.count)

-- there is a whole page for each record, and none states more bytes than fit it
pub record HasRecords (l : Layout) (bytes : List ℕ) : Type 0 where
  pub whole : (k : ℕ) → k < l.count → page_number l k * l.size + l.size ≤ length bytes
  pub fits : (k : ℕ) → k < l.count → stated bytes (place_of l k) + 4 ≤ l.width

-- the lines that a scratch is told to hold; a layout without records holds none, whatever is told
unfoldable pub lines_told : Layout → Option (List ℕ) → Option (List (List ℕ))
lines_told l told = if l.count == 0 then Some [] else option_map (decoded l) told

pub told-none : (l : Layout) (told : Option (List ℕ)) → l.count ≡ 0 → lines_told l told ≡ Some []
unfolding lines_told
told-none l told e = let t : nat_eq l.count 0 ≡ true = rw e refl in rw t refl

pub told-some : (l : Layout) (told : Option (List ℕ)) → 0 < l.count → lines_told l told ≡ option_map (decoded l) told
unfolding lines_told
told-some l told lt = let t : nat_eq l.count 0 ≡ false = grind (arith, nat_tests) in rw t refl

decoded-length : (l : Layout) (bytes : List ℕ) → length (decoded l bytes) ≡ l.count
unfolding decoded
decoded-length l bytes = length-map-range_with_len (λ k. line_in bytes (place_of l k)) 0 l.count

mapped-count : (l : Layout) (told : Option (List ℕ)) (ls : List (List ℕ)) → option_map (decoded l) told ≡ Some ls → l.count ≡ length ls
mapped-count l None ls e = absurd cc
mapped-count l (Some bytes) ls e = let same : decoded l bytes ≡ ls = cc in sym (decoded-length l bytes) ∙ ap length same

-- a layout has as many lines as it says
pub decoded-count : (l : Layout) (told : Option (List ℕ)) (ls : List (List ℕ)) → lines_told l told ≡ Some ls → l.count ≡ length ls
decoded-count l told ls e = elim (cases_eq l.count 0) [
  | inl none ↦ none ∙ ap length (let same : Some [] ≡ Some ls = sym (told-none l told none) ∙ e in let is : [] ≡ ls = cc in is)
  | inr some ↦ mapped-count l told ls (sym (told-some l told (omega arith)) ∙ e)
]
