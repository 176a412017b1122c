-- The old lines of hunks, by which they are kept. A hunk without old lines counts as one at the line of its start, which is 0 in front of all lines.
use Rattle.std.specs.Prelude.{ℕ, suc, ◌-◌, ◌<◌, ◌^◌, ◌==◌, max, min, All, List, [], ◌∷◌, length, map, if◌then◌else◌}
use Rattle.std.specs.List.{range_with_len}
use Rattle.hunk_core.specs.PlainHunk.{PlainHunk, old_lines}
use Rattle.ed_form.specs.PlainEdit.{PlainEdit, lowest}
use Rattle.read_file_patch.specs.declared.Change.{Change}
use Rattle.read_file_patch.specs.declared.Change.TheVariants.{Hunks, Script}
use Rattle.read_file_patch.specs.PlainPatch.{PlainChange, hunks, script}
use Rattle.filter_choice.specs.declared.numbers.Lines.{Lines}

-- the numbers from a first to a last
abbrev pub from_to : ℕ → ℕ → List ℕ
from_to first last = range_with_len first (suc last - first)

-- the numbers of the lines that a hunk keeps or drops
abbrev pub old_numbers : PlainHunk → List ℕ
old_numbers h = if length (old_lines h.body) == 0 then h.old_start ∷ [] else range_with_len h.old_start (length (old_lines h.body))

-- the least address of the commands
abbrev pub least : List PlainEdit → ℕ
least [] = 0
least (e ∷ []) = lowest e
least (e ∷ f ∷ es) = min (lowest e) (least (f ∷ es))

-- the greatest one
abbrev pub greatest : List PlainEdit → ℕ
greatest [] = 0
greatest (e ∷ es) = max e.last (greatest es)

-- the lines between these
abbrev pub addressed : List PlainEdit → List ℕ
addressed es = from_to (least es) (greatest es)

-- those of each hunk of a change; an ed script is one hunk
abbrev pub old_of_each : PlainChange → List (List ℕ)
old_of_each (hunks hs) = map old_numbers hs
old_of_each (script es) = addressed es ∷ []

-- the numbers that a struct of the code stands for
abbrev pub numbers_of : Lines → List ℕ
numbers_of lines = from_to lines.first lines.last

-- the lines of each hunk can be counted, and a script has an edit
abbrev pub IsCounted : Change → Type 0
IsCounted (Hunks hs) = All (λ h. length h.body.items < 2 ^ 32) hs.items
IsCounted (Script s) = 0 < length s.edits.items
