-- The binary changes that are passed over.
use Rattle.std.specs.Prelude.{ℕ, ◌+◌, Bool, true, false, not, ◌&&◌, ◌||◌, ◌==◌, nat_lt, List, [], ◌∷◌, ◌++◌, length, drop, get_or, codes, Option, None, Some, is_some, if◌then◌else◌}
use Rattle.std.specs.Option.{option_or}
use Rattle.line_list.specs.Lines.{lines}
use Rattle.hunk_core.specs.LineTests.{after}
use Rattle.patch_header.specs.Content.{content, is_binary}
use Rattle.patch_header.specs.GitRows.{half}
use Rattle.read_file_patch.specs.Candidates.{header_candidate}
use Rattle.patch_header.specs.declared.read_options.ReadOptions.{ReadOptions}
use Rattle.read_patch_text.specs.Regions.{Region, regions_of}
use Rattle.patch_set.specs.declared.skipped.BinaryChange.{BinaryChange}

-- a place lies in no hunk, ed script or bare git header: in front of an opening and behind the file patch before, or behind all
abbrev pub is_outside : List Region → ℕ → Bool
is_outside [] place = true
is_outside (r ∷ rs) place = nat_lt place r.header.at || (not (nat_lt place r.end) && is_outside rs place)

-- of the two kinds of binary lines the one that an image follows
abbrev pub is_image : List ℕ → Bool
is_image line = is_some (after (codes "GIT binary patch") line)

-- what stands in a git line behind its mark
abbrev pub git_names : List ℕ → Option (List ℕ)
git_names line = after (codes "diff --git ") (content line)

-- the last of them behind the file patch before, once a line was passed
abbrev pub names_on : Option (List ℕ) → Bool → List ℕ → Option (List ℕ)
names_on names outside line = if outside then option_or (git_names line) names else None

-- the new one of two names beside a space in the middle
abbrev pub second_half : List ℕ → List ℕ
second_half names = if get_or names (half names) 0 == 32 then drop (half names + 1) names else []

abbrev pub new_name : Option (List ℕ) → Option (List ℕ)
new_name None = None
new_name (Some names) = header_candidate (Some 0) (second_half names)

-- the binary change that a line with this number tells, behind a git line with these names
abbrev pub change_at : ℕ → Option (List ℕ) → List ℕ → BinaryChange
change_at number names line = record { line = number; is_image = is_image line; name = new_name names }

abbrev pub changes_if : Bool → ℕ → Option (List ℕ) → List ℕ → List BinaryChange
changes_if true number names line = change_at number names line ∷ []
changes_if false number names line = []

-- those of the binary lines that stand outside, among lines of which the first stands at a place and has this number
unfoldable pub skipped_from : List Region → ℕ → ℕ → Option (List ℕ) → List (List ℕ) → List BinaryChange
skipped_from rs at number names [] = []
skipped_from rs at number names (line ∷ rest) =
    changes_if (is_outside rs at && is_binary line) number names line ++ skipped_from rs (at + length line) (number + 1) (names_on names (is_outside rs at) line) rest

-- those of a text, where binary lines are passed over
unfoldable pub skipped_changes : ReadOptions → List ℕ → List BinaryChange
skipped_changes ways text = if ways.skip_binary then skipped_from (regions_of ways text) 0 1 None (lines text) else []
