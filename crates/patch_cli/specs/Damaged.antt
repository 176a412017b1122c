-- Lines that look like the range of a hunk and open none (POSIX `patch`, "File Name Determination" and the unified form).
use Rattle.std.specs.Prelude.{ℕ, Bool, not, ◌&&◌, List, [], ◌∷◌, drop, slice_range, codes, is_some}
use Rattle.std.specs.List.{list_any}
use Rattle.line_list.specs.Lines.{lines}
use Rattle.hunk_core.specs.LineTests.{after}
use Rattle.unified_form.specs.Ranges.{is_opening}
use Rattle.patch_header.specs.declared.read_options.ReadOptions.{ReadOptions}
use Rattle.read_patch_text.specs.Regions.{Region, regions_of}

-- '@@ -' without a digit behind it
abbrev pub is_damaged : List ℕ → Bool
is_damaged line = is_some (after (codes "@@ -") line) && not (is_opening line)

-- what of a text, from a place on, stands in no file patch: in front of the hunks of each, and behind the last
abbrev pub parts_outside : List ℕ → ℕ → List Region → List (List ℕ)
parts_outside text at [] = drop at text ∷ []
parts_outside text at (r ∷ rs) = slice_range text at r.header.at ∷ parts_outside text r.end rs

abbrev pub tells_damaged : List ℕ → Bool
tells_damaged part = list_any is_damaged (lines part)

-- such a line stands outside of the file patches of a text that is read in these ways
abbrev pub has_damaged : ReadOptions → List ℕ → Bool
has_damaged ways text = list_any tells_damaged (parts_outside text 0 (regions_of ways text))
