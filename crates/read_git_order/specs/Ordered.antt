-- A patch text with its file patches in the order in which they are carried out.
use Rattle.std.specs.Prelude.{ℕ, ◌+◌, ◌-◌, Bool, List, [], ◌∷◌, ◌++◌, length, drop, slice_get, is_some, Option, Result, Ok, Err, if◌then◌else◌}
use Rattle.std.specs.Option.{option_map_or}
use Rattle.line_list.specs.Completed.{completed}
use Rattle.hunk_core.specs.Reading.{Fault}
use Rattle.read_file_patch.specs.PlainPatch.{PlainPatch}
use Rattle.patch_options.specs.PlainJob.{PlainOptions}
use Rattle.read_patch_text.specs.Patches.{patches_of}
use Rattle.patch_set.specs.Asked.{ways_of}
use Rattle.patch_set.specs.Refusals.{refusal}
use Rattle.read_git_order.specs.declared.pieces.Piece.{Piece}
use Rattle.read_git_order.specs.Pieces.{body, front, pieces_for}
use Rattle.read_git_order.specs.Batches.{end_at, has_late, in_order}

abbrev pub front_at : List ℕ → List Piece → ℕ → List ℕ
front_at text ps k = option_map_or (front text) (slice_get ps k) []

abbrev pub body_at : List ℕ → List Piece → ℕ → List ℕ
body_at text ps k = option_map_or (body text) (slice_get ps k) []

-- what stands in front of each place stays there, and behind it comes the file patch that has its turn
unfoldable pub laid_from : List ℕ → List Piece → ℕ → List ℕ → List ℕ
laid_from text ps at [] = []
laid_from text ps at (k ∷ ks) = front_at text ps at ++ (body_at text ps k ++ laid_from text ps (at + 1) ks)

-- the file patches in this order, and the lines behind the last
abbrev pub laid : List ℕ → List Piece → List ℕ → List ℕ
laid text ps order = laid_from text ps 0 order ++ drop (end_at ps (length ps - 1)) text

-- where a file is changed in front of whoever renames or copies it, the text in the order of its batches
abbrev pub put_in_order : Bool → List ℕ → List ℕ → List Piece → List ℕ
put_in_order reverse given text ps = if has_late ps then laid text ps (in_order text reverse ps) else given

abbrev pub by_patches : PlainOptions → List ℕ → List ℕ → Result (List PlainPatch) Fault → List ℕ
by_patches o given text (Ok ps) = put_in_order o.reverse given text (pieces_for o text ps)
by_patches o given text (Err f) = given

-- a text that is refused stays as it is
abbrev pub ordered : PlainOptions → List ℕ → List ℕ
ordered o given = if is_some (refusal o given) then given else by_patches o given (completed given) (patches_of (ways_of o) (completed given))
