-- What pages that take as many lines as fit are like, in words of their own.
use Rattle.std.specs.Prelude.{⊤, ℕ, ◌+◌, ◌<◌, ◌≤◌, List, [], ◌∷◌, length, slice_index_or}
use Rattle.packed_pages.specs.Packs.{records}

-- the first line behind a page did not fit it
abbrev pub IsFull : ℕ → List (List ℕ) → List (List (List ℕ)) → Type 0
IsFull size page [] = ⊤
IsFull size page (next ∷ more) = size < length (records page) + (4 + length (slice_index_or next 0 []))

-- each page has a line, its records fit it, and the first line of the page behind it did not
abbrev pub ArePacked : ℕ → List (List (List ℕ)) → Type 0
ArePacked size [] = ⊤
ArePacked size (page ∷ more) = (1 ≤ length page) × ((length (records page) ≤ size) × (IsFull size page more × ArePacked size more))
