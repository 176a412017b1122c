-- How a filter reads a text, as `patch` reads it without options, but perhaps for `--skip-binary`, and the parts of a text: told by the text alone
-- (manual pages of patchutils).
use Rattle.std.specs.Prelude.{ℕ, Bool, true, ◌==◌, List, [], length, map, slice_range, if◌then◌else◌, Result, Ok, Err}
use Rattle.std.specs.List.{zip}
use Rattle.line_list.specs.Completed.{completed}
use Rattle.line_list.specs.declared.Span.{Span}
use Rattle.hunk_core.specs.Reading.{Fault}
use Rattle.read_file_patch.specs.PlainPatch.{PlainPatch, header_of}
use Rattle.patch_options.specs.PlainJob.{PlainOptions}
use Rattle.patch_options.specs.Table.{options_of}
use Rattle.read_patch_text.specs.Patches.{patches_of}
use Rattle.read_patch_text.specs.Regions.{Region, regions_of}
use Rattle.read_patch_text.specs.Spelled.{cut_at}
use Rattle.patch_set.specs.Asked.{ways_of}
use Rattle.patch_set.specs.PlainName.{plain_name}
use Rattle.split_recount.specs.Parts.{between, cuts_behind}
use Rattle.cli_tool_words.specs.PlainJobs.{PlainSplitJob}

-- ---- how a text is read

-- what `patch` alone asks for, or what it asks for with `--skip-binary` alone, by which binary changes are passed over
abbrev pub defaults : Bool → PlainOptions
defaults skip = record (options_of []) { skip_binary = skip }

-- the same in a dry run, of which no set knows
abbrev pub dry_defaults : Bool → PlainOptions
dry_defaults skip = record (defaults skip) { dry_run = true }

-- the file patches that were read; a text that is refused has none
abbrev pub read_patches : Result (List PlainPatch) Fault → List PlainPatch
read_patches (Ok ps) = ps
read_patches (Err fault) = []

-- those of a text, of which binary changes are passed over or not
abbrev pub patches_in : Bool → List ℕ → List PlainPatch
patches_in skip text = read_patches (patches_of (ways_of (defaults skip)) (completed text))

-- where they lie
abbrev pub regions_in : Bool → List ℕ → List Region
regions_in skip text = regions_of (ways_of (defaults skip)) (completed text)

-- a file patch, behind where it lies
abbrev pub Spot : Type 0
Spot = Region × PlainPatch

abbrev pub spots_in : Bool → List ℕ → List Spot
spots_in skip text = zip (regions_in skip text) (patches_in skip text)

-- the lines in front of its first hunk, the texts of its hunks, and all of it, by where it lies
abbrev pub front_of : List ℕ → Region → List ℕ
front_of text r = slice_range text r.start r.header.at

abbrev pub pieces_of : List ℕ → Region → List (List ℕ)
pieces_of text r = cut_at text r.header.at r.ends

abbrev pub all_of : List ℕ → Region → List ℕ
all_of text r = slice_range text r.start r.end

-- ---- `splitdiff`

-- where a file patch begins, and its name
abbrev pub row_at : List ℕ → Region → ℕ × List ℕ
row_at text r = (r.start, plain_name (header_of text r.header))

-- the same of all file patches of a text
abbrev pub rows_in : PlainSplitJob → List ℕ → List (ℕ × List ℕ)
rows_in j text = map (row_at (completed text)) (regions_in j.skip_binary text)

-- the parts of a text that is read; an empty one has none
unfoldable pub parts_in : PlainSplitJob → List ℕ → List Span
parts_in j text = if length (completed text) == 0 then [] else between 0 (cuts_behind j.every (rows_in j text)) (length (completed text))
