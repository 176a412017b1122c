-- A file patch of a set at hand, with a flag for each of its hunks, and what is asked for.
use Rattle.std.specs.Prelude.{◌≡◌, ℕ, ◌<◌, List, Some, length}
use Rattle.read_file_patch.specs.Absent.{IsLawfulPatch}
use Rattle.read_file_patch.specs.declared.FilePatch.{FilePatch}
use Rattle.read_file_patch.specs.PlainPatch.{PlainPatch, patch_of, row_count}
use Rattle.patch_set.specs.SetView.{SetView, patch_at}
use Rattle.patch_set.specs.Spans.{IsPlaced}
use Rattle.cli_tool_words.specs.PlainJobs.{plain_style}
use Rattle.patch_filters.specs.Filtered.{pieces, region}
use Rattle.patch_filters.specs.Told.{Telling}
use Rattle.patch_filters.specs.declared.row_parts.Row.{Row}

-- the file patch with this number, from 0, of the set
pub record IsAt (v : SetView) (patch : ℕ) (p : FilePatch) : Type 0 where
  pub within : patch < length v.patches
  pub at : patch_at v patch ≡ Some p
  pub lawful : IsLawfulPatch v.text p
  pub placed : IsPlaced v.text p.span.start p.first_verdict p

abbrev pub telling : Row → Telling
telling r = record { style = plain_style r.style.now; marks = r.marks; verbose = r.verbose }

abbrev pub plain : Row → PlainPatch
plain r = patch_of r.set.now.text r.row.now

-- the lines in front of its hunks, and their texts
abbrev pub front : Row → List ℕ
front r = region r.set.now.text r.row.now

abbrev pub texts : Row → List (List ℕ)
texts r = pieces r.set.now.text r.row.now

pub record IsRow (r : Row) : Type 0 where
  pub is : IsAt r.set.now r.patch r.row.now
  pub flags : length r.flags.now ≡ row_count r.row.now.change
