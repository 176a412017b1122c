-- What is written of a text where file patches and hunks are left out.
use Rattle.std.specs.Prelude.{ℕ, Bool, ◌&&◌, filter, List, [], ◌++◌, map, slice_range, is_none, if◌then◌else◌}
use Rattle.std.specs.List.{flat_map, list_any, zip}
use Rattle.hunk_core.specs.PlainHunk.{bytes_at}
use Rattle.read_file_patch.specs.declared.FilePatch.{FilePatch}
use Rattle.read_file_patch.specs.PlainPatch.{change_of, header_of}
use Rattle.patch_set.specs.SetView.{SetView}
use Rattle.cli_tool_words.specs.PlainJobs.{PlainFilterJob}
use Rattle.filter_choice.specs.Selected.{numbered}
use Rattle.filter_choice.specs.Kept.{is_taken, kept}

-- the lines of a file patch in front of its first hunk
abbrev pub region : List ℕ → FilePatch → List ℕ
region text p = slice_range text p.span.start p.header.at

-- the texts of its hunks
abbrev pub pieces : List ℕ → FilePatch → List (List ℕ)
pieces text p = map (bytes_at text) p.hunk_spans.items

-- a text that is kept, or nothing
abbrev pub text_if : Bool × List ℕ → List ℕ
text_if row = if row.0 then row.1 else []

-- the texts that are kept, one behind the other
abbrev pub chosen : List Bool → List (List ℕ) → List ℕ
chosen flags texts = flat_map text_if (zip flags texts)

-- the region and the kept hunks, or nothing where none is kept
abbrev pub written_hunks : PlainFilterJob → List ℕ → FilePatch → List ℕ
written_hunks j text p = if list_any (λ is. is) (kept j (change_of text p.change)) then region text p ++ chosen (kept j (change_of text p.change)) (pieces text p) else []

-- no hunks are asked for, neither by their numbers nor by their lines
abbrev pub asks_no_hunk : PlainFilterJob → Bool
asks_no_hunk j = is_none j.hunks && is_none j.lines

-- of a bare git header its span, which is its region and its lines, where no hunks are asked for
abbrev pub written_bare : PlainFilterJob → List ℕ → FilePatch → List ℕ
written_bare j text p = if asks_no_hunk j then bytes_at text p.span else []

abbrev pub written : PlainFilterJob → List ℕ → FilePatch → List ℕ
written j text p = if p.header.bare then written_bare j text p else written_hunks j text p

-- the file patch is meant
abbrev pub is_taken_of : PlainFilterJob → List ℕ → ℕ × FilePatch → Bool
is_taken_of j text n = is_taken j n.0 (header_of text n.1.header)

-- what is written of the file patches that are meant
unfoldable pub filtered : PlainFilterJob → SetView → List ℕ
filtered j v = flat_map (λ n. written j v.text n.1) (filter (is_taken_of j v.text) (numbered v.patches))

-- the same of one file patch, with its number
abbrev pub written_if_taken : PlainFilterJob → List ℕ → ℕ × FilePatch → List ℕ
written_if_taken j text n = if is_taken_of j text n then written j text n.1 else []
