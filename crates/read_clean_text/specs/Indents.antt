-- A patch text that was pasted with blanks or tabs in front of each line, as `patch` reads it (patch(1), "If the entire diff is indented by a consistent amount").
-- It has the lines of the given text, one for one (`AreUnindented`). A text that has file patches as it stands is read as it stands.
use Rattle.std.specs.Prelude.{◌≡◌, ◌⊎◌, ℕ, ◌+◌, Bool, true, false, not, ◌&&◌, ◌||◌, ◌==◌, nat_eq, nat_lt, List, [], ◌∷◌, ◌++◌, length, take, drop, codes, Option, None, Some, Result, Ok, Err, if◌then◌else◌}
use Rattle.std.specs.List.{flat_map, starts_with}
use Rattle.line_list.specs.Lines.{lines}
use Rattle.line_list.specs.Completed.{completed}
use Rattle.hunk_core.specs.Reading.{Fault}
use Rattle.patch_header.specs.Values.{blanks, unblanked}
use Rattle.patch_header.specs.declared.read_options.ReadOptions.{ReadOptions}
use Rattle.read_file_patch.specs.PlainPatch.{PlainPatch}
use Rattle.read_patch_text.specs.Patches.{patches_of}
use Rattle.read_patch_text.specs.Regions.{Region, regions_of}
use Rattle.read_clean_text.specs.Bare.{bare_line, bare_text}
use Rattle.read_clean_text.specs.Cleaned.{region_at}

-- ---- the text without its indent

-- the line begins like one of a header, or like the range of a hunk
abbrev pub begins_patch : List ℕ → Bool
begins_patch line = starts_with nat_eq line (codes "--- ") || (starts_with nat_eq line (codes "+++ ") || (starts_with nat_eq line (codes "*** ") || (starts_with nat_eq line (codes "@@ -")
    || (starts_with nat_eq line (codes "diff ") || (starts_with nat_eq line (codes "Index:") || starts_with nat_eq line (codes "Prereq:"))))))

-- the indent: the blanks and tabs in front of the first of these lines that begins so behind them; nothing where none does
unfoldable pub indent_of : List (List ℕ) → List ℕ
indent_of [] = []
indent_of (line ∷ rest) = if begins_patch (unblanked line) then take (blanks line) line else indent_of rest

-- the line has these very bytes in front, and more
abbrev pub has_indent : List ℕ → List ℕ → Bool
has_indent indent line = starts_with nat_eq line indent && nat_lt (length indent) (length line)

abbrev pub unindented_line : List ℕ → List ℕ → List ℕ
unindented_line indent line = if has_indent indent line then drop (length indent) line else line

-- each line that has the indent loses it
abbrev pub without_indent : List ℕ → List ℕ → List ℕ
without_indent indent text = flat_map (unindented_line indent) (lines text)

-- ---- where it is read

-- a line feed alone, or behind a carriage return
abbrev pub is_empty_line : List ℕ → Bool
is_empty_line line = starts_with nat_eq line (10 ∷ []) || starts_with nat_eq line (13 ∷ 10 ∷ [])

-- a line stands in a file patch from the first line of this that begins like one of a header, or from its opening; so it does behind a line that
-- does, up to the end
abbrev pub is_in_patch : Bool → Region → ℕ → List ℕ → Bool
is_in_patch before r at line = not (nat_lt at r.header.at) || (begins_patch line || (before && nat_lt r.start at))

abbrev pub is_in : Bool → Option Region → ℕ → List ℕ → Bool
is_in before None at line = false
is_in before (Some r) at line = is_in_patch before r at line

-- the line begins like one of a header behind more blanks
abbrev pub is_deeper : List ℕ → Bool
is_deeper line = nat_lt 0 (blanks line) && begins_patch (unblanked line)

-- a line that stands in a file patch has the indent, or is empty; no other one begins a file patch with another indent
abbrev pub is_fit : List ℕ → Bool → List ℕ → Bool
is_fit indent stands line = if stands then has_indent indent line || is_empty_line line else not (is_deeper (unindented_line indent line))

-- each of these lines fits; the first stands at a place of the bare text without the indent, of which it is known where file patches lie, and
-- behind a line that is in one or not
unfoldable pub are_indented : List ℕ → List Region → Bool → ℕ → List (List ℕ) → Bool
are_indented indent regions before at [] = true
are_indented indent regions before at (line ∷ rest) =
    is_fit indent (is_in before (region_at regions at) at (unindented_line indent line)) line
    && are_indented indent regions (is_in before (region_at regions at) at (unindented_line indent line)) (at + length (bare_line (unindented_line indent line))) rest

-- no file patch was read, and no fault was met
abbrev pub has_none : Result (List PlainPatch) Fault → Bool
has_none (Ok ps) = length ps == 0
has_none (Err f) = false

-- without the indent it has file patches, all of which are indented so; or a fault, which is told then
abbrev pub is_read_so : List ℕ → List ℕ → Result (List PlainPatch) Fault → List Region → Bool
is_read_so indent text (Ok ps) regions = not (length ps == 0) && are_indented indent regions false 0 (lines text)
is_read_so indent text (Err f) regions = true

-- of two completed bare texts: the given one has no file patch, and the one without the indent is read
abbrev pub is_indented : ReadOptions → List ℕ → List ℕ → List ℕ → List ℕ → Bool
is_indented ways indent text given new = has_none (patches_of ways given) && is_read_so indent text (patches_of ways new) (regions_of ways new)

-- there is nothing to be taken off, or the text has more than 256 MiB
abbrev pub stays : List ℕ → Bool
stays text = nat_lt 268435456 (length text) || length (indent_of (lines text)) == 0

-- the text is read without its indent, in these ways
unfoldable pub loses_indent : ReadOptions → List ℕ → Bool
loses_indent ways text =
    not (stays text) && is_indented ways (indent_of (lines text)) text (completed (bare_text text)) (completed (bare_text (without_indent (indent_of (lines text)) text)))

-- the text without its indent: these very bytes, not columns, so no line is guessed. A line outside of file patches that
-- begins like a header behind more blanks has the text refused: a file patch would be lost in silence. A range line tells
-- an indent too; a row of stars or a command alone doesn't. A fault of the text without its indent is told
unfoldable pub unindented : ReadOptions → List ℕ → List ℕ
unindented ways text = if loses_indent ways text then without_indent (indent_of (lines text)) text else text

-- these lines are those, one for one, some of them without these bytes in front
abbrev pub AreUnindented : List ℕ → List (List ℕ) → List (List ℕ) → Type 0
AreUnindented indent [] [] = Unit {0}
AreUnindented indent (new ∷ news) (line ∷ more) = ((line ≡ new) ⊎ (line ≡ indent ++ new)) × AreUnindented indent news more
AreUnindented indent [] (line ∷ more) = ⊥
AreUnindented indent (new ∷ news) [] = ⊥
