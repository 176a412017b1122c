-- The pieces of a set, and its text in the order of its batches.
use Rattle.std.specs.Prelude.{ℕ, Bool, List, map}
use Rattle.std.specs.List.{list_any}
use Rattle.read_file_patch.specs.Actions.{is_moved}
use Rattle.read_file_patch.specs.declared.FilePatch.{FilePatch}
use Rattle.read_patch_text.specs.Regions.{region_of}
use Rattle.patch_set.specs.SetView.{SetView}
use Rattle.read_git_order.specs.declared.pieces.Piece.{Piece}
use Rattle.read_git_order.specs.Batches.{in_order}
use Rattle.read_git_order.specs.Ordered.{laid}
use Rattle.read_git_order.specs.Pieces.{piece_of}

abbrev pub pieces_in : List ℕ → Bool → List FilePatch → List Piece
pieces_in text reverse ps = map (λ p. piece_of text reverse (region_of p) p.targets.items) ps

-- a file is renamed or copied
abbrev pub has_moved : List FilePatch → Bool
has_moved ps = list_any (λ p. is_moved p.header.action) ps

abbrev pub pieces_of_set : Bool → SetView → List Piece
pieces_of_set reverse v = pieces_in v.text reverse v.patches

abbrev pub new_text : Bool → SetView → List ℕ
new_text reverse v = laid v.text (pieces_of_set reverse v) (in_order v.text reverse (pieces_of_set reverse v))
