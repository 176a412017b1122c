-- Where each file patch of a text lies, by the text alone: its region, its opening, the pieces of its hunks and its end.
use Rattle.std.specs.Prelude.{ℕ, zero, suc, ◌+◌, Bool, false, List, [], ◌∷◌, map, length, slice_range, Option, None, Some, Result, Ok, Err, if◌then◌else◌}
use Rattle.line_list.specs.Lines.{lines}
use Rattle.hunk_core.specs.declared.Form.{Form}
use Rattle.hunk_core.specs.declared.Form.TheVariants.{Unified, Context, Normal, Ed}
use Rattle.hunk_core.specs.Reading.{Fault, Ahead}
use Rattle.unified_form.specs.Ranges.{is_opening}
use Rattle.context_form.specs.Openings.{is_stars}
use Rattle.normal_form.specs.Commands.{is_command}
use Rattle.read_header_record.specs.declared.Header.{Header}
use Rattle.patch_header.specs.declared.search.HeaderStep.{HeaderStep}
use Rattle.patch_header.specs.declared.search.HeaderStep.TheVariants.{Found, Binary, End}
use Rattle.patch_header.specs.declared.read_options.ReadOptions.{ReadOptions}
use Rattle.patch_header.specs.Steps.{next_step}
use Rattle.read_file_patch.specs.declared.FilePatch.{FilePatch}
use Rattle.read_file_patch.specs.PlainPatch.{PlainChange}
use Rattle.read_patch_text.specs.Patches.{change_behind, place_before}

-- where a file patch lies: its region goes from the start up to the place of its header, and behind it stand its hunks
pub record Region : Type 0 where
  pub start : ℕ
  pub header : Header
  -- the place behind each hunk, an ed script counting as one; a bare git header has none
  pub ends : List ℕ
  pub end : ℕ

-- where a file patch that was read lies
abbrev pub region_of : FilePatch → Region
region_of p = record { start = p.span.start; header = p.header; ends = map (λ s. s.end) p.hunk_spans.items; end = p.span.end }

-- the line is the first one of a hunk in this form; no other line of a hunk is so, and an ed script is one piece
abbrev pub begins_piece : Form → List ℕ → Bool
begins_piece Unified line = is_opening line
begins_piece Context line = is_stars line
begins_piece Normal line = is_command line
begins_piece Ed line = false

-- the place in front of each of these lines, the first of them at a place, that begins a piece, and the place behind all
unfoldable pub ends_from : Form → ℕ → List (List ℕ) → List ℕ
ends_from form at [] = at ∷ []
ends_from form at (line ∷ rest) = if begins_piece form line then at ∷ ends_from form (at + length line) rest else ends_from form (at + length line) rest

-- the place behind each piece of these lines, the first of which begins a piece at a place
abbrev pub piece_ends : Form → ℕ → List (List ℕ) → List ℕ
piece_ends form at [] = []
piece_ends form at (line ∷ rest) = ends_from form (at + length line) rest

-- the place behind each hunk of what a header opens and goes up to an end
abbrev pub hunk_ends : List ℕ → Header → ℕ → List ℕ
hunk_ends text h end = if h.bare then [] else piece_ends h.form h.at (lines (slice_range text h.at end))

-- the region from a start on of what a header opens and goes up to an end
abbrev pub region_up_to : List ℕ → ℕ → Header → ℕ → Region
region_up_to text start h end = record { start = start; header = h; ends = hunk_ends text h end; end = end }

-- the same, and what is ahead behind it; a change that is at fault has no region
abbrev pub region_with : List ℕ → ℕ → Header → Result (PlainChange × Ahead) Fault → Option (Region × Ahead)
region_with text start h (Ok x) = Some (region_up_to text start h (place_before text x.1.rest), x.1)
region_with text start h (Err f) = None

-- the region of a file patch, if that comes next
abbrev pub region_by : List ℕ → ℕ → HeaderStep → Option (Region × Ahead)
region_by text start (Found h) = region_with text start h (change_behind text h)
region_by text start (Binary number) = None
region_by text start End = None

-- the first region from a place on, whose line has this number
abbrev pub next_region : ReadOptions → List ℕ → ℕ → ℕ → Option (Region × Ahead)
next_region ways text at number = region_by text at (next_step ways text at number)

-- a region, if there is one, and those that come later
abbrev pub with_later : (Ahead → List Region) → Option (Region × Ahead) → List Region
with_later later None = []
with_later later (Some x) = x.0 ∷ later x.1

-- at most so many regions from a place on, whose line has this number
unfoldable pub regions_at : ℕ → ReadOptions → List ℕ → ℕ → ℕ → List Region
regions_at zero ways text at number = []
regions_at (suc most) ways text at number = with_later (λ p. regions_at most ways text (place_before text p.rest) p.number) (next_region ways text at number)

-- the regions of a text that is read in these ways, up to the first fault
abbrev pub regions_of : ReadOptions → List ℕ → List Region
regions_of ways text = regions_at (length text) ways text 0 1
