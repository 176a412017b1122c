-- How a text is cut into parts between its file patches (manual page of `splitdiff`).
use Rattle.std.specs.Prelude.{ℕ, Bool, ◌||◌, ◌==◌, List, [], ◌∷◌, length, map, if◌then◌else◌}
use Rattle.line_list.specs.declared.Span.{Span}
use Rattle.read_file_patch.specs.declared.FilePatch.{FilePatch}
use Rattle.read_file_patch.specs.PlainPatch.{header_of}
use Rattle.read_file_patch.specs.Numbered.{is_among}
use Rattle.patch_set.specs.PlainName.{plain_name}
use Rattle.patch_set.specs.SetView.{SetView}

-- where the region of a file patch begins, and its name
abbrev pub row_of : List ℕ → FilePatch → ℕ × List ℕ
row_of text p = (p.span.start, plain_name (header_of text p.header))

-- those of all file patches
abbrev pub rows_of : SetView → List (ℕ × List ℕ)
rows_of v = map (row_of v.text) v.patches

-- where parts begin among these file patches, behind some with these names in the current part: at each, or at each whose name is among them
unfoldable pub cuts : Bool → List (List ℕ) → List (ℕ × List ℕ) → List ℕ
cuts every names [] = []
cuts every names (row ∷ rows) = if every || is_among names row.1 then row.0 ∷ cuts every (row.1 ∷ []) rows else cuts every (row.1 ∷ names) rows

-- the same, where the first of all stands in the first part
abbrev pub cuts_behind : Bool → List (ℕ × List ℕ) → List ℕ
cuts_behind every [] = []
cuts_behind every (row ∷ rows) = cuts every (row.1 ∷ []) rows

-- the spans from a place up to an end that meet at these places
abbrev pub between : ℕ → List ℕ → ℕ → List Span
between start [] end = record { start = start; end = end } ∷ []
between start (cut ∷ others) end = record { start = start; end = cut } ∷ between cut others end

-- the parts of the text of a set; an empty text has none
abbrev pub parts : Bool → SetView → List Span
parts every v = if length v.text == 0 then [] else between 0 (cuts_behind every (rows_of v)) (length v.text)
