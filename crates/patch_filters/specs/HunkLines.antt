-- The lines that a list has for hunks (manual pages of `lsdiff` and `grepdiff`, `-v`).
use Rattle.std.specs.Prelude.{ℕ, suc, ◌+◌, ◌==◌, count_by, List, [], ◌∷◌, ◌++◌, codes}
use Rattle.num_text.specs.Numbers.{decimal}
use Rattle.hunk_core.specs.declared.Form.{Form}
use Rattle.hunk_core.specs.declared.Form.TheVariants.{Unified, Context, Normal, Ed}
use Rattle.read_file_patch.specs.declared.FilePatch.{FilePatch}
use Rattle.patch_filters.specs.Filtered.{pieces}

-- how many line feeds a text has
abbrev pub feeds : List ℕ → ℕ
feeds text = count_by (λ b. b == 10) text

-- the line of a hunk: the number of the line at which it begins, and its number
abbrev pub hunk_line : ℕ → ℕ → List ℕ
hunk_line line number = (((codes "\t" ++ decimal line) ++ codes "\tHunk #") ++ decimal number) ++ codes "\n"

-- those of hunks with these texts, of which the first begins at this line and has this number; each has a label in front
abbrev pub lines_from : List ℕ → ℕ → ℕ → List (List ℕ) → List (List ℕ)
lines_from label line number [] = []
lines_from label line number (piece ∷ pieces) = (label ++ hunk_line line number) ∷ lines_from label (line + feeds piece) (suc number) pieces

-- where the first hunk begins, whose opening has this number: in the context form behind its line of stars
abbrev pub first_line : Form → ℕ → ℕ
first_line Unified opening = opening
first_line Context opening = suc opening
first_line Normal opening = opening
first_line Ed opening = opening

-- those of all hunks of a file patch
abbrev pub hunk_lines : List ℕ → List ℕ → FilePatch → List (List ℕ)
hunk_lines label text p = lines_from label (first_line p.header.form p.header.opening) 1 (pieces text p)
