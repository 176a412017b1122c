-- The text that stands behind the ranges of a hunk (GNU diffutils manual, "Showing C Function Headings"), and a hunk that is written with it.
use Rattle.std.specs.Prelude.{ℕ, ◌==◌, nat_eq, List, [], ◌∷◌, drop, replicate, take, if◌then◌else◌}
use Rattle.std.specs.List.{starts_with}
use Rattle.hunk_core.specs.declared.Form.{Form}
use Rattle.hunk_core.specs.declared.Form.TheVariants.{Unified, Context, Normal, Ed}
use Rattle.hunk_core.specs.PlainHunk.{PlainHunk}
use Rattle.patch_header.specs.Values.{first}
use Rattle.unified_form.specs.Canonical as unified
use Rattle.context_form.specs.Canonical as context

-- where a byte stands first, or the end
abbrev pub place_of : ℕ → List ℕ → ℕ
place_of byte bytes = first (λ b. b == byte) bytes

-- a text up to the end of its first line, and from there on
abbrev pub line_rest : List ℕ → List ℕ
line_rest bytes = take (place_of 10 bytes) bytes

abbrev pub next_lines : List ℕ → List ℕ
next_lines bytes = drop 1 (drop (place_of 10 bytes) bytes)

-- behind the next run of so many of a byte
abbrev pub past : ℕ → ℕ → List ℕ → List ℕ
past byte count bytes = drop count (drop (place_of byte bytes) bytes)

-- behind the second `@@` of the range line
abbrev pub behind_ranges : List ℕ → List ℕ
behind_ranges piece = line_rest (past 64 2 (drop 2 piece))

-- behind the `****` of the old range
abbrev pub behind_old : List ℕ → List ℕ
behind_old line = line_rest (past 42 4 (drop 4 line))

abbrev pub unless_empty : List ℕ → List ℕ → List ℕ
unless_empty [] other = other
unless_empty (b ∷ bytes) other = b ∷ bytes

-- behind the asterisks; where nothing stands there, or a hunk has none, behind its old range
abbrev pub behind_stars : List ℕ → List ℕ
behind_stars piece = if starts_with nat_eq piece (replicate 15 42) then unless_empty (line_rest (drop 15 piece)) (behind_old (next_lines piece)) else behind_old piece

-- in the lines of a hunk of this form
abbrev pub behind_in : Form → List ℕ → List ℕ
behind_in Unified piece = behind_ranges piece
behind_in Context piece = behind_stars piece
behind_in Normal piece = []
behind_in Ed piece = []

-- a hunk as diff writes it, with this text behind its ranges
abbrev pub shown_text : Form → List ℕ → PlainHunk → List ℕ
shown_text Unified behind h = unified.shown behind h
shown_text Context behind h = context.shown behind h
shown_text Normal behind h = []
shown_text Ed behind h = []
