-- The lines of a file with the edits of its placed hunks made.
use Rattle.std.specs.Prelude.{ℕ, ◌+◌, ◌≤◌, List, [], ◌∷◌, ◌++◌, length, Bool, true, false, ◌==◌, ◌||◌, if◌then◌else◌, Option, None, Some, flat_map}
use Rattle.std.specs.List.{AllByRecursion}
use Rattle.line_store.specs.Store.{line_at}
use Rattle.hunk_core.specs.declared.Mark.{Mark}
use Rattle.hunk_core.specs.declared.Mark.TheVariants.{Keep, Drop, Add}
use Rattle.hunk_core.specs.PlainHunk.{Marked, PlainHunk}
use Rattle.hunk_place.specs.Order.{from_to}
use Rattle.hunk_place.specs.declared.Spot.{Spot}

-- a line is added in the gap before line `at`, or line `at` is dropped
pub record Edit : Type 0 where
  pub at : ℕ
  pub added : Option (List ℕ)

abbrev pub add : ℕ → List ℕ → Edit
add at line = record { at = at; added = Some line }

abbrev pub drop_line : ℕ → Edit
drop_line at = record { at = at; added = None }

-- the edits of a body whose next old line stands at `at`
abbrev pub marked_edits : Mark → ℕ → List ℕ → (ℕ → List Edit) → List Edit
marked_edits Keep at line rest = rest (at + 1)
marked_edits Drop at line rest = drop_line at ∷ rest (at + 1)
marked_edits Add at line rest = add at line ∷ rest at

unfoldable pub body_edits : ℕ → List Marked → List Edit
body_edits at [] = []
body_edits at (m ∷ ms) = marked_edits m.mark at m.line (λ next. body_edits next ms)

-- the edits of one hunk, if it has a place
abbrev pub hunk_edits : Option Spot → PlainHunk → List Edit
hunk_edits None h = []
hunk_edits (Some s) h = body_edits s.line h.body

-- the edits of the hunks that have a place, in their order
unfoldable pub all_edits : List (Option Spot) → List PlainHunk → List Edit
all_edits [] hs = []
all_edits (place ∷ places) [] = []
all_edits (place ∷ places) (h ∷ hs) = hunk_edits place h ++ all_edits places hs

-- the lines that are added in gap q
abbrev pub added_line : Option (List ℕ) → List (List ℕ)
added_line None = []
added_line (Some line) = line ∷ []

unfoldable pub gap : List Edit → ℕ → List (List ℕ)
gap [] q = []
gap (e ∷ es) q = (if e.at == q then added_line e.added else []) ++ gap es q

abbrev pub is_drop : Option (List ℕ) → Bool
is_drop None = true
is_drop (Some line) = false

unfoldable pub is_dropped : List Edit → ℕ → Bool
is_dropped [] q = false
is_dropped (e ∷ es) q = (if e.at == q then is_drop e.added else false) || is_dropped es q

-- what stands in gap q, and then line q unless it is dropped
abbrev pub row : List (List ℕ) → List Edit → ℕ → List (List ℕ)
row lines es q = gap es q ++ (if is_dropped es q then [] else line_at lines q ∷ [])

unfoldable pub spliced : List (List ℕ) → List Edit → List (List ℕ)
spliced lines es = flat_map (row lines es) (from_to 1 (length lines)) ++ gap es (length lines + 1)

-- the part from gap q on
unfoldable pub spliced_from : List (List ℕ) → List Edit → ℕ → List (List ℕ)
spliced_from lines es q = flat_map (row lines es) (from_to q (length lines)) ++ gap es (length lines + 1)

-- no edit lies before line q
abbrev pub AreFrom : ℕ → List Edit → Type 0
AreFrom q es = AllByRecursion (λ e. q ≤ e.at) es
