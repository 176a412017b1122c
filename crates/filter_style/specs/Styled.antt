-- What `filterdiff` does to the names and the text of the file patches that it writes (manual page of `filterdiff`: --strip, --addprefix,
-- --addoldprefix, --addnewprefix, --remove-timestamps, --clean), behind filtering: from a text to a text, told by the text alone. Where file
-- patches lie is told by reading the text as filters do.
use Rattle.std.specs.Prelude.{ℕ, ◌+◌, ◌==◌, Bool, true, false, not, ◌&&◌, ◌||◌, is_none, List, [], ◌∷◌, ◌++◌, drop, length, nat_lt, slice_range, take, codes, None, Result, Ok, Err, if◌then◌else◌}
use Rattle.std.specs.List.{flat_map}
use Rattle.line_list.specs.Lines.{lines}
use Rattle.hunk_core.specs.declared.Form.{Form}
use Rattle.hunk_core.specs.declared.Form.TheVariants.{Unified, Context, Normal, Ed}
use Rattle.hunk_core.specs.Reading.{Fault}
use Rattle.patch_options.specs.Forms.{is_empty}
use Rattle.patch_header.specs.Values.{first}
use Rattle.patch_header.specs.declared.read_options.ReadOptions.{ReadOptions}
use Rattle.read_file_patch.specs.PlainPatch.{PlainPatch}
use Rattle.read_patch_text.specs.Digests.{digests_of}
use Rattle.read_patch_text.specs.Regions.{Region, regions_of}
use Rattle.unified_form.specs.declared.hunk_scan.OldRange.{OldRange}
use Rattle.cli_tool_words.specs.PlainJobs.{PlainStyle}
use Rattle.filter_style.specs.Names.{begins}
use Rattle.filter_style.specs.Fronts.{front}

-- names stay
abbrev pub is_nameless : PlainStyle → Bool
is_nameless s = (s.strip == 0 && is_none s.prefix) && (is_empty s.old_prefix && is_empty s.new_prefix)

-- nothing is done
abbrev pub is_plain : PlainStyle → Bool
is_plain s = is_nameless s && (not s.no_stamps && not s.clean)

-- ---- hunks

-- a range line of the unified form; no other line of its hunks begins so
abbrev pub is_range : Form → List ℕ → Bool
is_range Unified line = begins (codes "@@ -") line
is_range Context line = false
is_range Normal line = false
is_range Ed line = false

abbrev pub is_at : ℕ → Bool
is_at b = b == 64

-- where the second `@@` stands behind the first
abbrev pub mark_at : List ℕ → ℕ
mark_at line = first is_at (drop 2 line)

-- a note behind the second `@@`, and what stood there, or the end of the line
abbrev pub noted_range : Bool → List ℕ → List ℕ → List ℕ
noted_range clean note line = if begins (codes "@@") (drop (mark_at line) (drop 2 line)) then (take (mark_at line + 4) line ++ note) ++ (if clean then 10 ∷ [] else drop (mark_at line + 4) line) else line

abbrev pub is_star : ℕ → Bool
is_star b = b == 42

-- where `****` stands behind the first stars of the old range of the context form
abbrev pub star_at : List ℕ → ℕ
star_at line = first is_star (drop 4 line)

-- a note in place of what stands behind it
abbrev pub noted_stars : List ℕ → List ℕ → List ℕ
noted_stars note line = if begins (codes "****") (drop (star_at line) (drop 4 line)) then (take (star_at line + 8) line ++ note) ++ 10 ∷ [] else line

-- the line that tells the old range in the context form; no other line of its hunks begins so
abbrev pub is_old_range : List ℕ → Bool
is_old_range line = begins (codes "*** ") line

-- a line of a hunk, where a note is told or none
abbrev pub hunk_line : Bool → List ℕ → Form → List ℕ → List ℕ
hunk_line clean note Unified line = if is_range Unified line then noted_range clean note line else line
hunk_line clean note Context line = if not (is_empty note) && is_old_range line then noted_stars note line else line
hunk_line clean note Normal line = line
hunk_line clean note Ed line = line

-- hunks with a note in the lines that tell their ranges
unfoldable pub noted_text : Bool → List ℕ → Form → List ℕ → List ℕ
noted_text clean note form text = flat_map (hunk_line clean note form) (lines text)

abbrev pub hunks_text : PlainStyle → Form → List ℕ → List ℕ
hunks_text s form text = if s.clean then noted_text true [] form text else text

-- ---- file patches

abbrev pub text_unless : Bool → List ℕ → List ℕ
text_unless clean text = if clean then [] else text

-- a git header without hunks is text: without what ends it, it would be read as that of the file patch behind it
abbrev pub is_text : PlainStyle → Region → Bool
is_text s r = s.clean && r.header.bare

-- the lines in front of such a header are written as they are
abbrev pub front_in : PlainStyle → Form → Bool → List ℕ → List ℕ
front_in s form bare text = if bare then text else front s form (lines text)

abbrev pub region_text : PlainStyle → List ℕ → Region → List ℕ
region_text s text r = if is_text s r then [] else front_in s r.header.form r.header.bare (slice_range text r.start r.header.at) ++ hunks_text s r.header.form (slice_range text r.header.at r.end)

-- file patches from a place on, and the text behind them
abbrev pub styled_from : PlainStyle → List ℕ → ℕ → List Region → List ℕ
styled_from s text at [] = text_unless s.clean (drop at text)
styled_from s text at (r ∷ rs) = region_text s text r ++ styled_from s text r.end rs

-- ---- texts

-- as filters read: git headers too, and binary changes are passed over
abbrev pub filter_ways : ReadOptions
filter_ways = record { only = None; git = true; skip_binary = true }

-- a text that can't be read stays as it is
abbrev pub styled_by : PlainStyle → List ℕ → Result (List PlainPatch × List (List OldRange)) Fault → List ℕ
styled_by s text (Ok x) = styled_from s text 0 (regions_of filter_ways text)
styled_by s text (Err f) = text

-- so does one of more than 256 MiB
unfoldable pub restyled : PlainStyle → List ℕ → List ℕ
restyled s text = if is_plain s || nat_lt 268435456 (length text) then text else styled_by s text (digests_of filter_ways text)
