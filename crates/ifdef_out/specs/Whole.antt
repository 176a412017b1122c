-- A file and a change to it as one body: its lines in order, each kept or dropped, and the added lines in their gaps.
use Rattle.std.specs.Prelude.{ℕ, ◌+◌, List, [], ◌∷◌, ◌++◌, length, map, flat_map, Bool, true, false}
use Rattle.line_store.specs.Store.{line_at}
use Rattle.hunk_core.specs.declared.Mark.{Mark}
use Rattle.hunk_core.specs.declared.Mark.TheVariants.{Keep, Drop, Add}
use Rattle.hunk_core.specs.PlainHunk.{Marked}
use Rattle.hunk_place.specs.Order.{from_to}
use Rattle.hunk_apply.specs.Splice.{Edit, gap, is_dropped}

abbrev pub added : List ℕ → Marked
added line = record { mark = Add; line = line }

abbrev pub file_mark : Bool → Mark
file_mark true = Drop
file_mark false = Keep

-- line q of the file
abbrev pub file_line : List (List ℕ) → List Edit → ℕ → Marked
file_line lines es q = record { mark = file_mark (is_dropped es q); line = line_at lines q }

-- the lines that are added in gap q, and then line q
abbrev pub whole_row : List (List ℕ) → List Edit → ℕ → List Marked
whole_row lines es q = map added (gap es q) ++ (file_line lines es q ∷ [])

-- the part from gap q on
unfoldable pub whole_from : List (List ℕ) → List Edit → ℕ → List Marked
whole_from lines es q = flat_map (whole_row lines es) (from_to q (length lines)) ++ map added (gap es (length lines + 1))

-- the whole file
abbrev pub whole : List (List ℕ) → List Edit → List Marked
whole lines es = whole_from lines es 1
