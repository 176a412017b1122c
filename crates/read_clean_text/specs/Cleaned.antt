-- A patch text as `patch` reads it, without the carriage returns that mail or another system put in front of its line feeds (GNU patch manual, `--binary`).
-- It has the lines of the given text, one for one (`IsLineForLine`).
use Rattle.std.specs.Prelude.{◌≡◌, ◌⊎◌, ℕ, ◌+◌, ◌-◌, Bool, false, not, ◌&&◌, ◌||◌, ◌==◌, nat_eq, nat_lt, List, [], ◌∷◌, length, slice_get, codes, unwrap_or, Option, None, Some, Result, Ok, Err, if◌then◌else◌}
use Rattle.std.specs.List.{find, flat_map, list_any, starts_with}
use Rattle.line_list.specs.Lines.{lines}
use Rattle.line_list.specs.Completed.{completed}
use Rattle.hunk_core.specs.declared.Form.{Form}
use Rattle.hunk_core.specs.declared.Form.TheVariants.{Unified, Context, Normal, Ed}
use Rattle.hunk_core.specs.Reading.{Fault}
use Rattle.read_header_record.specs.declared.Header.{Header}
use Rattle.patch_header.specs.declared.read_options.ReadOptions.{ReadOptions}
use Rattle.read_file_patch.specs.PlainPatch.{PlainPatch}
use Rattle.read_patch_text.specs.Patches.{patches_of}
use Rattle.read_patch_text.specs.Regions.{Region, regions_of}
use Rattle.read_clean_text.specs.Bare.{bare_line, bare_text, returns_of}

-- the last line of a header, counted from 0: the one in front of the opening, or in normal diffs and ed scripts the opening itself
abbrev pub telling_line : Form → ℕ → ℕ
telling_line Unified opening = opening - 2
telling_line Context opening = opening - 2
telling_line Normal opening = opening - 1
telling_line Ed opening = opening - 1

-- the file patch with this header comes with carriage returns: the last line of its header has one
-- Range lines don't count: git writes a line of a file with such ends behind `@@`.
abbrev pub comes_with_returns : List Bool → Header → Bool
comes_with_returns returns h = unwrap_or (slice_get returns (telling_line h.form h.opening)) false

-- the header tells of carriage returns that were taken off: it has hunks, and comes with returns
abbrev pub tells_returns : List Bool → Header → Bool
tells_returns returns h = not h.bare && comes_with_returns returns h

-- a line at a place stands in front of the hunks of a file patch, or in a bare git header
abbrev pub is_in_front : Header → ℕ → Bool
is_in_front h at = h.bare || nat_lt at h.at

-- the line is one of a file, or a backslash line behind one
abbrev pub is_of_file : List ℕ → Bool
is_of_file line = starts_with nat_eq line (codes "<") || (starts_with nat_eq line (codes ">") || starts_with nat_eq line (92 ∷ []))

-- a line of hunks in this form is a range line or parts two sides, and is none of a file. In ed scripts any line may be one of a file
abbrev pub is_own : Form → List ℕ → Bool
is_own Unified line = starts_with nat_eq line (codes "@")
is_own Context line = starts_with nat_eq line (codes "**") || starts_with nat_eq line (codes "--")
is_own Normal line = not (is_of_file line)
is_own Ed line = false

-- a line at a place loses its return: in front of hunks; all of them where the file patch comes with returns, unless these are to be kept; and a
-- line that is none of a file
abbrev pub loses : Bool → List Bool → Header → ℕ → List ℕ → Bool
loses keeps returns h at line = is_in_front h at || ((not keeps && comes_with_returns returns h) || is_own h.form line)

-- of a file patch, if there is one; a line behind all file patches keeps it
abbrev pub loses_in : Bool → List Bool → Option Region → ℕ → List ℕ → Bool
loses_in keeps returns None at line = false
loses_in keeps returns (Some r) at line = loses keeps returns r.header at line

-- the file patch in which a place stands: the first that ends behind it
abbrev pub region_at : List Region → ℕ → Option Region
region_at regions at = find (λ r. nat_lt at r.end) regions

abbrev pub line_unless : Bool → List ℕ → List ℕ
line_unless loses line = if loses then bare_line line else line

-- these lines, the first of them at a place of the bare text, of which this is known: which lines have returns, and where file patches lie
unfoldable pub cleaned_lines : Bool → List Bool → List Region → ℕ → List (List ℕ) → List (List ℕ)
cleaned_lines keeps returns regions at [] = []
cleaned_lines keeps returns regions at (line ∷ rest) =
    line_unless (loses_in keeps returns (region_at regions at) at line) line ∷ cleaned_lines keeps returns regions (at + length (bare_line line)) rest

-- the text, where the bare text has file patches; else the bare text, so that its fault is told
abbrev pub cleaned_by : Bool → List ℕ → Result (List PlainPatch) Fault → List Region → List ℕ
cleaned_by keeps text (Ok ps) regions = flat_map (λ line. line) (cleaned_lines keeps (returns_of text) regions 0 (lines text))
cleaned_by keeps text (Err f) regions = bare_text text

-- by the completed bare text, which is read in these ways
abbrev pub cleaned_in : ReadOptions → Bool → List ℕ → List ℕ → List ℕ
cleaned_in ways keeps text whole = cleaned_by keeps text (patches_of ways whole) (regions_of ways whole)

-- the text has no carriage return, or more than 256 MiB
abbrev pub is_clean : List ℕ → Bool
is_clean text = nat_lt 268435456 (length text) || not (list_any (λ b. b == 13) text)

-- the text that is read in these ways, where carriage returns are to be kept or not
unfoldable pub cleaned : ReadOptions → Bool → List ℕ → List ℕ
cleaned ways keeps text = if is_clean text then text else cleaned_in ways keeps text (completed (bare_text text))

-- one of the file patches has hunks and comes with returns
unfoldable pub one_tells : List Bool → List Region → Bool
one_tells returns regions = list_any (λ r. tells_returns returns r.header) regions

-- the same of a text that has no fault
abbrev pub tells_by : List ℕ → Result (List PlainPatch) Fault → List Region → Bool
tells_by text (Ok ps) regions = one_tells (returns_of text) regions
tells_by text (Err f) regions = false

-- by the completed bare text, which is read in these ways
abbrev pub tells_in : ReadOptions → List ℕ → List ℕ → Bool
tells_in ways text whole = tells_by text (patches_of ways whole) (regions_of ways whole)

-- a run that doesn't keep the carriage returns of this text, which it reads in these ways, says that they are taken off
unfoldable pub tells_stripping : ReadOptions → List ℕ → Bool
tells_stripping ways text = if is_clean text then false else tells_in ways text (completed (bare_text text))

-- these lines are those, one for one, some of them without their returns
abbrev pub IsLineForLine : List (List ℕ) → List (List ℕ) → Type 0
IsLineForLine [] [] = Unit {0}
IsLineForLine (new ∷ news) (line ∷ more) = ((new ≡ line) ⊎ (new ≡ bare_line line)) × IsLineForLine news more
IsLineForLine [] (line ∷ more) = ⊥
IsLineForLine (new ∷ news) [] = ⊥
