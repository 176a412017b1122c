-- What a change does to the lines of its file: the blocks of lines that it drops and adds without a kept line between (GNU diffutils manual, "Hunks").
use Rattle.std.specs.Prelude.{ℕ, zero, suc, ◌+◌, ◌-◌, Bool, true, false, not, ◌==◌, ◌||◌, List, [], ◌∷◌, ◌++◌, length, map, reverse, if◌then◌else◌}
use Rattle.std.specs.List.{flat_map}
use Rattle.hunk_core.specs.declared.Mark.{Mark}
use Rattle.hunk_core.specs.declared.Mark.TheVariants.{Keep, Drop, Add}
use Rattle.hunk_core.specs.PlainHunk.{Marked, PlainHunk}
use Rattle.hunk_core.specs.Turned.{base}
use Rattle.ed_form.specs.PlainEdit.{PlainEdit}
use Rattle.read_file_patch.specs.PlainPatch.{PlainChange, hunks, script}

-- a line that is added in the gap before line `at`, or line `at` that is dropped
pub record Edit : Type 0 where
  pub at : ℕ
  pub adds : Bool
  pub line : List ℕ

abbrev pub add_at : ℕ → List ℕ → Edit
add_at at line = record { at = at; adds = true; line = line }

abbrev pub drop_at : ℕ → List ℕ → Edit
drop_at at line = record { at = at; adds = false; line = line }

-- the gap behind an edit
abbrev pub behind : Edit → ℕ
behind e = if e.adds then e.at else e.at + 1

-- the edits of a body whose next old line stands at `at`
abbrev pub marked_edits : Mark → ℕ → List ℕ → (ℕ → List Edit) → List Edit
marked_edits Keep at line rest = rest (at + 1)
marked_edits Drop at line rest = drop_at at line ∷ rest (at + 1)
marked_edits Add at line rest = add_at at line ∷ rest at

unfoldable pub body_edits : ℕ → List Marked → List Edit
body_edits at [] = []
body_edits at (m ∷ ms) = marked_edits m.mark at m.line (λ next. body_edits next ms)

-- the edits of hunks, each standing where its old lines are stated
abbrev pub hunk_edits : List PlainHunk → List Edit
hunk_edits hs = flat_map (λ h. body_edits (base h) h.body) hs

-- so many lines from line `at` on that are dropped; a script doesn't say what they are
unfoldable pub drops_from : ℕ → ℕ → List Edit
drops_from at zero = []
drops_from at (suc count) = drop_at at [] ∷ drops_from (at + 1) count

-- how many lines a command of a script drops, and whether it changes anything
abbrev pub drop_count : PlainEdit → ℕ
drop_count e = e.last + 1 - e.first

abbrev pub is_change : PlainEdit → Bool
is_change e = not (drop_count e == 0) || not (length e.added == 0)

-- the edits of a command: its lines are dropped, and its text is added in the gap behind the last one
abbrev pub command_edits : PlainEdit → List Edit
command_edits e = drops_from e.first (drop_count e) ++ map (add_at (e.last + 1)) e.added

-- those of a script, from its last command, which stands first in the file
abbrev pub script_edits : List PlainEdit → List Edit
script_edits es = flat_map command_edits (reverse es)

abbrev pub edits_in : PlainChange → List Edit
edits_in (hunks hs) = hunk_edits hs
edits_in (script es) = script_edits es

-- lines from `first` on that are dropped, and lines that are added in their place; without dropped lines these stand in the gap before line `first`
pub record Block : Type 0 where
  pub first : ℕ
  pub dropped : List (List ℕ)
  pub added : List (List ℕ)

-- the line of an edit, if it is dropped or if it is added
abbrev pub dropped_by : Edit → List (List ℕ)
dropped_by e = if e.adds then [] else e.line ∷ []

abbrev pub added_by : Edit → List (List ℕ)
added_by e = if e.adds then e.line ∷ [] else []

-- an edit, and these lines behind it
abbrev pub block_of : Edit → List (List ℕ) → List (List ℕ) → Block
block_of e dropped added = record { first = e.at; dropped = dropped_by e ++ dropped; added = added_by e ++ added }

-- an edit in front of blocks: it is of the first one where that begins in the gap behind it, and else a block of its own
abbrev pub in_front : Edit → List Block → List Block
in_front e [] = block_of e [] [] ∷ []
in_front e (b ∷ bs) = if behind e == b.first then block_of e b.dropped b.added ∷ bs else block_of e [] [] ∷ b ∷ bs

-- the blocks of edits that follow each other
unfoldable pub blocks_of : List Edit → List Block
blocks_of [] = []
blocks_of (e ∷ es) = in_front e (blocks_of es)

abbrev pub blocks_in : PlainChange → List Block
blocks_in c = blocks_of (edits_in c)

-- a block as an edit of an ed script: its last line is the one in front of its first line where it drops none
abbrev pub change_of_block : Block → PlainEdit
change_of_block b = record { first = b.first; last = b.first + length b.dropped - 1; added = b.added }

-- what a change does, whatever context it shows: which lines are replaced by which
abbrev pub changes : PlainChange → List PlainEdit
changes c = map change_of_block (blocks_in c)
