-- The file patches of a text as pieces that can change places (git-diff(1), "Generating patch text with -p").
use Rattle.std.specs.Prelude.{ℕ, ◌+◌, Bool, true, false, List, [], ◌∷◌, length, take, drop, map, slice_get, slice_range, codes, is_some, Option, None, Some, option_map, unwrap_or, if◌then◌else◌}
use Rattle.std.specs.Option.{option_map_or, option_or}
use Rattle.line_list.specs.Lines.{lines}
use Rattle.hunk_core.specs.LineTests.{after}
use Rattle.read_header_record.specs.declared.Action.{Action}
use Rattle.read_header_record.specs.declared.Action.TheVariants.{Plain, New, Deleted, Rename, Copy}
use Rattle.read_file_patch.specs.Actions.{is_moved}
use Rattle.read_file_patch.specs.PlainPatch.{PlainPatch, header_of}
use Rattle.read_file_patch.specs.declared.derived.Target.{Target}
use Rattle.patch_options.specs.PlainJob.{PlainOptions}
use Rattle.patch_set.specs.Asked.{ways_of}
use Rattle.patch_set.specs.Named.{known_names, targets_of}
use Rattle.read_patch_text.specs.Regions.{Region, regions_of}
use Rattle.read_git_order.specs.declared.pieces.Piece.{Piece}
use Rattle.read_git_order.specs.declared.pieces.GitLinePlaces.{GitLinePlaces}

abbrev pub begins : List ℕ → List ℕ → Bool
begins mark line = is_some (after mark line)

-- the place of a line, where it begins so
abbrev pub place_if : Bool → ℕ → Option ℕ
place_if true at = Some at
place_if false at = None

-- the first git line so far, and the last index line
abbrev pub with_line : GitLinePlaces → ℕ → List ℕ → GitLinePlaces
with_line found at line = record {
  git = option_or found.git (place_if (begins (codes "diff --git ") line) at);
  index = option_or (place_if (begins (codes "index ") line) at) found.index;
}

unfoldable pub found_from : GitLinePlaces → ℕ → List (List ℕ) → GitLinePlaces
found_from found at [] = found
found_from found at (line ∷ rest) = found_from (with_line found at line) (at + length line) rest

abbrev pub no_places : GitLinePlaces
no_places = record { git = None; index = None }

-- the places of both in the lines in front of the hunks
abbrev pub found_in : List ℕ → GitLinePlaces
found_in bytes = found_from no_places 0 (lines bytes)

-- the file with its name at a place among its targets
abbrev pub number_at : List Target → ℕ → Option ℕ
number_at targets k = option_map (λ t. t.number) (slice_get targets k)

-- the places of the name that a file has before it is renamed or copied, and of the one that it gets, as the file patches are taken
abbrev pub source_place : Bool → ℕ
source_place reverse = if reverse then 1 else 0

abbrev pub target_place : Bool → ℕ
target_place reverse = if reverse then 0 else 1

-- the file that is renamed or copied
abbrev pub source_of : Bool → Action → List Target → Option ℕ
source_of reverse action targets = if is_moved action then number_at targets (source_place reverse) else None

-- the file that is made or changed: of a rename or a copy the new one. A file patch of git that hunks follow directly, and
-- whose file another form's lines name too, counts by the first of its names
abbrev pub made_by : Bool → Action → List Target → Option ℕ
made_by reverse action targets = number_at targets (if is_moved action then target_place reverse else 0)

-- the source is taken away
abbrev pub takes_source : Action → Bool
takes_source Plain = false
takes_source New = false
takes_source Deleted = false
takes_source Rename = true
takes_source Copy = false

-- where the lines end that stand in front of hunks, or the git header without any
abbrev pub top : Region → ℕ
top r = if r.header.bare then r.end else r.header.at

-- what a file patch is as a piece
abbrev pub piece_of : List ℕ → Bool → Region → List Target → Piece
piece_of text reverse r targets = record {
  start = r.start;
  end = r.end;
  places = found_in (slice_range text r.start (top r));
  source = source_of reverse r.header.action targets;
  made = made_by reverse r.header.action targets;
  takes = takes_source r.header.action;
}

-- the pieces of a text, of which these are the file patches
abbrev pub piece_for : PlainOptions → List (List ℕ) → List ℕ → Region → Piece
piece_for o known text r = piece_of text o.reverse r (targets_of o known (header_of text r.header))

abbrev pub pieces_for : PlainOptions → List ℕ → List PlainPatch → List Piece
pieces_for o text ps = map (piece_for o (known_names o ps) text) (regions_of (ways_of o) text)

-- its lines
abbrev pub own : List ℕ → Piece → List ℕ
own text p = slice_range text p.start p.end

-- those in front of its git line, which stay where they are, and the others
abbrev pub front : List ℕ → Piece → List ℕ
front text p = take (unwrap_or p.places.git 0) (own text p)

abbrev pub body : List ℕ → Piece → List ℕ
body text p = drop (unwrap_or p.places.git 0) (own text p)
