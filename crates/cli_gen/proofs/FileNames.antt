-- The places of the made files.
use Rattle.std.proofs.Common.{◌≡◌, ℕ, ◌+◌, ◌<◌, List, [], ◌∷◌, ◌++◌, map, length, get_or, false, refl, sym, ◌∙◌, ap, arith}
use Rattle.std.proofs.lemmas.List.{get_or-map, length-map, map-append}
use Rattle.std.proofs.lemmas.List.FromFn.{map-range_with_len_more, get_or-map-range_with_len, length-map-range_with_len}
use Rattle.std.specs.List.{range_with_len}
use Rattle.outside.specs.Files.{is_temp, temp_of}
use Rattle.patch_gen.specs.Patches.{file_name}
use Rattle.law_reading.proofs.Targets.{file_lasting}
use Rattle.cli_gen.specs.declared.places.MadeFileNames.{MadeFileNames}
use Rattle.cli_gen.specs.Preparing.{ArePlaces}

pub places_none : ArePlaces [] 0
places_none = record { names = refl; temps = refl }

pub places_more : (places : List MadeFileNames) (n : ℕ) (p : MadeFileNames) (all : List MadeFileNames) → ArePlaces places n → p.name ≡ file_name (n + 1) → p.temp ≡ temp_of (file_name (n + 1)) → all ≡ places ++ p ∷ [] → ArePlaces all (n + 1)
places_more places n p all before name temp is = record {
  names = ap (map (λ p. p.name)) is ∙ map-append (λ p. p.name) places (p ∷ []) ∙ ap (λ (l : List (List ℕ)). l ++ p.name ∷ []) before.names ∙ ap (λ (x : List ℕ). map file_name (range_with_len 1 n) ++ x ∷ []) name
      ∙ sym (map-range_with_len_more file_name 1 n (n + 1) (omega arith));
  temps = ap (map (λ p. p.temp)) is ∙ map-append (λ p. p.temp) places (p ∷ []) ∙ ap (λ (l : List (List ℕ)). l ++ p.temp ∷ []) before.temps ∙ ap (λ (x : List ℕ). map (λ i. temp_of (file_name i)) (range_with_len 1 n) ++ x ∷ []) temp
      ∙ sym (map-range_with_len_more (λ i. temp_of (file_name i)) 1 n (n + 1) (omega arith));
}

pub count_of : {X : Type 0} {Y : Type 0} (h : X → Y) (f : ℕ → Y) (xs : List X) (count : ℕ) → map h xs ≡ map f (range_with_len 1 count) → length xs ≡ count
count_of h f xs count is = sym (length-map xs h) ∙ ap (λ l. length l) is ∙ length-map-range_with_len f 1 count

-- what a list of files or places holds at a number
pub at_number : {X : Type 0} {Y : Type 0} (h : X → Y) (f : ℕ → Y) (xs : List X) (count k : ℕ) (x : X) → map h xs ≡ map f (range_with_len 1 count) → k < count → h (get_or xs k x) ≡ f (k + 1)
at_number h f xs count k x is lt =
    let long : length xs ≡ count = count_of h f xs count is in
    sym (get_or-map h xs k x (h x) (omega (arith, lt, long))) ∙ ap (λ l. get_or l k (h x)) is ∙ get_or-map-range_with_len f 1 count k (k + 1) (h x) lt (omega arith)

pub place_count : (places : List MadeFileNames) (count : ℕ) → ArePlaces places count → length places ≡ count
place_count places count are = count_of (λ p. p.name) file_name places count are.names

pub name_at : (places : List MadeFileNames) (count k : ℕ) (p : MadeFileNames) → ArePlaces places count → k < count → (get_or places k p).name ≡ file_name (k + 1)
name_at places count k p are lt = at_number (λ p. p.name) file_name places count k p are.names lt

pub temp_at : (places : List MadeFileNames) (count k : ℕ) (p : MadeFileNames) → ArePlaces places count → k < count → (get_or places k p).temp ≡ temp_of (get_or places k p).name
temp_at places count k p are lt = at_number (λ p. p.temp) (λ i. temp_of (file_name i)) places count k p are.temps lt ∙ ap temp_of (sym (name_at places count k p are lt))

pub lasting_at : (places : List MadeFileNames) (count k : ℕ) (p : MadeFileNames) → ArePlaces places count → k < count → is_temp (get_or places k p).name ≡ false
lasting_at places count k p are lt = ap is_temp (name_at places count k p are lt) ∙ file_lasting (k + 1)
