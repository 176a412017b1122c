-- Which file patches wait for which others: who changes a file waits for whoever renames or copies it.
use Rattle.std.specs.Prelude.{ℕ, Bool, true, false, not, ◌&&◌, ◌||◌, ◌==◌, nat_eq, nat_lt, List, [], ◌∷◌, length, take, drop, suc, zero, slice_get, codes, Option, None, Some, unwrap_or, if◌then◌else◌}
use Rattle.std.specs.List.{list_any, starts_with}
use Rattle.std.specs.Option.{option_map_or}
use Rattle.hunk_core.specs.LineTests.{after}
use Rattle.read_git_order.specs.declared.pieces.Piece.{Piece}
use Rattle.read_git_order.specs.Pieces.{own}

abbrev pub is_file : Option ℕ → ℕ → Bool
is_file None file = false
is_file (Some own) file = own == file

-- it makes, changes or takes away the file
abbrev pub changes : Piece → ℕ → Bool
changes p file = is_file p.made file || (p.takes && is_file p.source file)

abbrev pub changes_one : Piece → Option ℕ → Bool
changes_one p None = false
changes_one p (Some file) = changes p file

-- one changes the file that the other renames or copies
abbrev pub changes_source : Piece → Piece → Bool
changes_source p q = changes_one p q.source

-- ---- hashes of an index line

-- a digit of a hash
abbrev pub is_digit : ℕ → Bool
is_digit b = (not (nat_lt b 48) && nat_lt b 58) || (not (nat_lt b 97) && nat_lt b 103)

-- how many of them stand in front
unfoldable pub digits : List ℕ → ℕ
digits [] = zero
digits (b ∷ bs) = if is_digit b then suc (digits bs) else zero

abbrev pub hash_front : List ℕ → List ℕ
hash_front bytes = take (digits bytes) bytes

-- what stands in the index line at a place behind its mark
abbrev pub index_at : List ℕ → Option ℕ → List ℕ
index_at bytes None = []
index_at bytes (Some at) = unwrap_or (after (codes "index ") (drop at bytes)) []

abbrev pub first_hash : List ℕ → List ℕ
first_hash bytes = hash_front bytes

abbrev pub second_hash : List ℕ → List ℕ
second_hash bytes = hash_front (unwrap_or (after (codes "..") (drop (digits bytes) bytes)) [])

-- that of what the file patch is made for, and of what it makes
abbrev pub old_hash : Bool → List ℕ → List ℕ
old_hash reverse bytes = if reverse then second_hash bytes else first_hash bytes

abbrev pub new_hash : Bool → List ℕ → List ℕ
new_hash reverse bytes = if reverse then first_hash bytes else second_hash bytes

abbrev pub is_empty : List ℕ → Bool
is_empty bytes = length bytes == 0

-- two hashes are equal as far as both are written
abbrev pub is_same_hash : List ℕ → List ℕ → Bool
is_same_hash one other = not (is_empty one) && (not (is_empty other) && (starts_with nat_eq one other || starts_with nat_eq other one))

abbrev pub index_of : List ℕ → Piece → List ℕ
index_of text p = index_at (own text p) p.places.index

-- the second one, behind the first in the text, is made for what the first makes of its source
abbrev pub is_made_for : List ℕ → Bool → Piece → Piece → Bool
is_made_for text reverse p q = (nat_lt p.start q.start && changes_source p q) && is_same_hash (new_hash reverse (index_of text p)) (old_hash reverse (index_of text q))

-- ---- file patches by their places

abbrev pub with_other : (Piece → Bool) → Option Piece → Bool
with_other test None = false
with_other test (Some q) = test q

-- a test of two of them
abbrev pub of_two : (Piece → Piece → Bool) → List Piece → ℕ → ℕ → Bool
of_two test ps i j = option_map_or (λ p. with_other (test p) (slice_get ps j)) (slice_get ps i) false

-- one of these makes what this one is made for: it reads what is there when its turn comes
abbrev pub reads_later : List ℕ → Bool → List Piece → List ℕ → ℕ → Bool
reads_later text reverse ps batch j = list_any (λ i. of_two (is_made_for text reverse) ps i j) batch

-- one waits for the other
abbrev pub waits : List ℕ → Bool → List Piece → List ℕ → ℕ → ℕ → Bool
waits text reverse ps batch i j = not (i == j) && (of_two changes_source ps i j && not (reads_later text reverse ps batch j))
