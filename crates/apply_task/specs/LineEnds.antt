-- How lines end: in a carriage return and a line feed, or otherwise.
use Rattle.std.specs.Prelude.{ℕ, Bool, true, false, not, nat_eq, List, [], ◌∷◌, ◌++◌, slice_index_or, Option, None, Some}
use Rattle.std.specs.List.{ends_with}
use Rattle.hunk_core.specs.PlainHunk.{PlainHunk, old_lines, new_lines}

-- in a carriage return and a line feed
abbrev pub is_returned : List ℕ → Bool
is_returned line = ends_with nat_eq line (13 ∷ 10 ∷ [])

-- whether the first line of a file does, if it has one
abbrev pub first_end : List (List ℕ) → Option Bool
first_end [] = None
first_end (line ∷ lines) = Some (is_returned line)

-- the first old line of a hunk, or the first new one where it has no old one
abbrev pub first_line : PlainHunk → List ℕ
first_line h = slice_index_or (old_lines h.body ++ new_lines h.body) 0 []

-- of that line and the first one of the file one ends so, and the other doesn't
abbrev pub ends_otherwise : Option Bool → PlainHunk → Bool
ends_otherwise None h = false
ends_otherwise (Some true) h = not (is_returned (first_line h))
ends_otherwise (Some false) h = is_returned (first_line h)
