-- The bytes of the made files, summed up.
use Rattle.std.proofs.Common.{◌≡◌, ℕ, ◌+◌, ◌<◌, ◌≤◌, List, [], ◌∷◌, map, length, take, Option, None, Some, refl, sym, ◌∙◌, ap, arith}
use Rattle.std.specs.List.{sum_by, range_with_len}
use Rattle.std.proofs.lemmas.List.{take_all}
use Rattle.std.proofs.lemmas.List.Sums.{sum_by-cons, sum_by_more}
use Rattle.std.specs.Prelude.{get_or, option_map, unwrap_or}
use Rattle.std.specs.FinMap.{get}
use Rattle.outside.specs.Files.{Files, bytes_at}
use Rattle.patch_gen.specs.Patches.{file_name}
use Rattle.cli_gen.specs.declared.places.MadeFileNames.{MadeFileNames}
use Rattle.cli_gen.specs.Preparing.{ArePlaces}
use Rattle.cli_gen.specs.Summary.{bytes_in, capped}

sum_by-map : {X Y : Type 0} (h : X → Y) (g : Y → ℕ) (xs : List X) → sum_by (λ x. g (h x)) xs ≡ sum_by g (map h xs)
sum_by-map h g [] = refl
sum_by-map h g (x ∷ xs) = sum_by-cons (λ x. g (h x)) x xs ∙ ap (λ n. g (h x) + n) (sum_by-map h g xs) ∙ sym (sum_by-cons g (h x) (map h xs))

size-by : (held : Option (List ℕ)) → unwrap_or (option_map length held) 0 ≡ length (unwrap_or held [])
size-by None = refl
size-by (Some bytes) = refl

-- a size that is told; a file that is missing has no bytes
pub size_told : (f : Files) (name : List ℕ) (size : Option ℕ) → size ≡ option_map length (get f name) → unwrap_or size 0 ≡ length (bytes_at f name)
size_told f name size is = ap (λ (o : Option ℕ). unwrap_or o 0) is ∙ size-by (get f name)

abbrev pub size_of : Files → MadeFileNames → ℕ
size_of f p = length (bytes_at f p.name)

-- a sum that stays at its greatest value, and one number more
capped-more : (x y total : ℕ) → total ≡ capped x → capped (total + y) ≡ capped (x + y)
capped-more x y total is = grind arith

pub sizes_more : (f : Files) (places : List MadeFileNames) (k total size : ℕ) (p : MadeFileNames) → k < length places → total ≡ capped (sum_by (size_of f) (take k places)) → size ≡ size_of f (get_or places k p)
    → capped (total + size) ≡ capped (sum_by (size_of f) (take (k + 1) places))
sizes_more f places k total size p lt is one =
    capped-more (sum_by (size_of f) (take k places)) size total is
    ∙ ap (λ n. capped (sum_by (size_of f) (take k places) + n)) one
    ∙ ap capped (sym (sum_by_more (size_of f) places k p lt))

pub sizes_all : (f : Files) (places : List MadeFileNames) (count k : ℕ) → length places ≤ k → ArePlaces places count → sum_by (size_of f) (take k places) ≡ bytes_in f count
sizes_all f places count k le are =
    ap (sum_by (size_of f)) (take_all k places le)
    ∙ sum_by-map (λ p. p.name) (λ (n : List ℕ). length (bytes_at f n)) places
    ∙ ap (sum_by (λ (n : List ℕ). length (bytes_at f n))) are.names
    ∙ sym (sum_by-map file_name (λ (n : List ℕ). length (bytes_at f n)) (range_with_len 1 count))
