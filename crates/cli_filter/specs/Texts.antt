-- What `lsdiff`, `filterdiff` and `grepdiff` write of a text: told by the text alone (manual pages of patchutils).
use Rattle.std.specs.Prelude.{ℕ, Bool, filter, List, [], ◌++◌, length, map, None, if◌then◌else◌}
use Rattle.std.specs.List.{flat_map, list_any, range_with_len, zip}
use Rattle.line_list.specs.Completed.{completed}
use Rattle.filter_choice.specs.Kept.{is_taken, kept}
use Rattle.filter_choice.specs.Selected.{numbered}
use Rattle.patch_filters.specs.Filtered.{asks_no_hunk, chosen, text_if}
use Rattle.patch_filters.specs.Grepped.{hits_of, is_found, tells, told_found}
use Rattle.patch_filters.specs.HunkLines.{first_line, lines_from}
use Rattle.patch_filters.specs.Listed.{asks_hunks, is_listed, list_line, listed, name_line}
use Rattle.patch_filters.specs.Told.{text_behind, told_of}
use Rattle.cli_tool_words.specs.PlainJobs.{PlainFilterJob, PlainGrepJob, PlainListJob}
use Rattle.cli_tool_words.specs.declared.jobs.GrepOut.{GrepOut}
use Rattle.cli_tool_words.specs.declared.jobs.GrepOut.TheVariants.{Names, Hunks, Files}
use Rattle.filter_whole_text.specs.Texts.{Spot, spots_in, patches_in, front_of, pieces_of, all_of}

-- ---- `lsdiff`

-- the lines of the hunks of a file patch, with this in front
abbrev pub spot_lines : List ℕ → List ℕ → Spot → List (List ℕ)
spot_lines label text s = lines_from label (first_line s.0.header.form s.0.header.opening) 1 (pieces_of text s.0)

-- the line of a file patch with this number, and those of its hunks where they are asked for
abbrev pub spot_listed : PlainListJob → List ℕ → ℕ × Spot → List ℕ
spot_listed j text n = list_line j (n.0, n.1.1) ++ text_if (j.shown.hunks, flat_map (λ line. line) (spot_lines j.shown.hunk_label text n.1))

-- what is written of the file patches of a text that are selected; without hunks their lines are enough
unfoldable pub listed_in : PlainListJob → List ℕ → List ℕ
listed_in j text = if asks_hunks j.shown then flat_map (spot_listed j (completed text)) (filter (λ n. is_listed j n.1.1) (numbered (spots_in j.select.skip_binary text)))
    else listed j (patches_in j.select.skip_binary text)

-- ---- `filterdiff`

-- the lines in front of the hunks and those hunks that are kept, or nothing where none is
abbrev pub spot_hunks : PlainFilterJob → List ℕ → Spot → List ℕ
spot_hunks j text s = if list_any (λ is. is) (kept j s.1.change) then front_of text s.0 ++ chosen (kept j s.1.change) (pieces_of text s.0) else []

-- all of a bare git header, where no hunks are asked for
abbrev pub spot_bare : PlainFilterJob → List ℕ → Spot → List ℕ
spot_bare j text s = if asks_no_hunk j then all_of text s.0 else []

abbrev pub spot_written : PlainFilterJob → List ℕ → Spot → List ℕ
spot_written j text s = if s.0.header.bare then spot_bare j text s else spot_hunks j text s

-- the file patch with this number is meant
abbrev pub is_spot_taken : PlainFilterJob → ℕ × Spot → Bool
is_spot_taken j n = is_taken j n.0 n.1.1.header

-- what is written of the file patches of a text that are meant
unfoldable pub filtered_in : PlainFilterJob → List ℕ → List ℕ
filtered_in j text = flat_map (λ n. spot_written j (completed text) n.1) (filter (is_spot_taken j) (numbered (spots_in j.select.skip_binary text)))

-- what is written of a file patch where something is told of its hunks
abbrev pub spot_told : PlainFilterJob → List ℕ → ℕ × Spot → List ℕ
spot_told j text n = told_of j n.0 n.1.1 (front_of text n.1.0) (pieces_of text n.1.0) (all_of text n.1.0)

-- of all of them, counted from 0, and of the text behind them
abbrev pub told_at : PlainFilterJob → List ℕ → List Spot → List ℕ
told_at j text spots = flat_map (spot_told j text) (zip (range_with_len 0 (length spots)) spots) ++ text_behind j.verbose text (map (λ s. s.0.end) spots)

unfoldable pub told_in : PlainFilterJob → List ℕ → List ℕ
told_in j text = told_at j (completed text) (spots_in j.select.skip_binary text)

-- ---- `grepdiff`

-- of a file patch that is found its line and, where that is asked for, those of the hunks with a hit; or the lines in front of its hunks and
-- just these hunks; or all of it
abbrev pub spot_found : (List ℕ → Bool) → GrepOut → PlainGrepJob → List ℕ → Spot → List ℕ
spot_found hit Names j text s = name_line j.shown None s.1 ++ text_if (j.shown.hunks, chosen (hits_of j.searched hit s.1.change) (spot_lines j.shown.hunk_label text s))
spot_found hit Hunks j text s = front_of text s.0 ++ chosen (hits_of j.searched hit s.1.change) (pieces_of text s.0)
spot_found hit Files j text s = all_of text s.0

-- the same with its hunks told or numbered, where that is asked for
abbrev pub spot_asked : (List ℕ → Bool) → PlainGrepJob → List ℕ → Spot → List ℕ
spot_asked hit j text s = if tells j then told_found j (hits_of j.searched hit s.1.change) s.1 (front_of text s.0) (pieces_of text s.0) else spot_found hit j.output j text s

-- what is written of the file patches of a text that are found
unfoldable pub grepped_in : (List ℕ → Bool) → PlainGrepJob → List ℕ → List ℕ
grepped_in hit j text = flat_map (spot_asked hit j (completed text)) (filter (λ s. is_found hit j s.1) (spots_in j.select.skip_binary text))
