-- The pieces of a text are those of the set that is read from it.
use Rattle.std.proofs.Common.{◌≡◌, ◌⊎◌, inl, inr, ℕ, Bool, true, false, ◌||◌, cond, List, [], ◌∷◌, map, Option, None, Some, refl, sym, ap, ◌∙◌}
use Rattle.std.specs.Prelude.{is_some, Result, Ok}
use Rattle.std.specs.List.{list_any}
use Rattle.std.proofs.lemmas.Bool.{or_parts}
use Rattle.line_list.specs.Completed.{completed}
use Rattle.hunk_core.specs.Reading.{Fault}
use Rattle.read_header_record.specs.declared.Action.{Action}
use Rattle.read_file_patch.specs.Actions.{is_moved}
use Rattle.read_file_patch.specs.PlainPatch.{PlainPatch, header_of}
use Rattle.read_file_patch.specs.declared.FilePatch.{FilePatch}
use Rattle.read_file_patch.specs.declared.derived.Target.{Target}
use Rattle.patch_options.specs.PlainJob.{PlainOptions}
use Rattle.patch_set.specs.Asked.{ways_of}
use Rattle.patch_set.specs.Named.{known_names, targets_of}
use Rattle.patch_set.specs.Refusals.{refusal}
use Rattle.patch_set.specs.declared.fault.SetFault.{SetFault}
use Rattle.patch_set.specs.declared.fault.SetFault.TheVariants as faults
use Rattle.patch_set.specs.SetView.{SetView, IsRead, plain_patches}
use Rattle.read_patch_text.specs.Patches.{patches_of}
use Rattle.read_patch_text.specs.Regions.{Region, region_of, regions_of}
use Rattle.read_git_order.specs.declared.pieces.Piece.{Piece}
use Rattle.read_git_order.specs.Batches.{has_late, is_behind, is_late}
use Rattle.read_git_order.specs.Moving.{has_moved, new_text, pieces_in, pieces_of_set}
use Rattle.read_git_order.specs.Ordered.{by_patches, ordered, put_in_order}
use Rattle.read_git_order.specs.Pieces.{number_at, piece_for, piece_of, pieces_for, source_of, source_place}

-- ---- without a rename or a copy nothing is late

source-none : (reverse : Bool) (action : Action) (targets : List Target) → is_moved action ≡ false → source_of reverse action targets ≡ None
source-none reverse action targets not = ap (λ b. cond b (number_at targets (source_place reverse)) None) not

module _ (text : List ℕ) (reverse : Bool) (all : List Piece) where
  one-none : (p : FilePatch) → is_moved p.header.action ≡ false → is_late all (piece_of text reverse (region_of p) p.targets.items) ≡ false
  one-none p not = ap (is_behind all (piece_of text reverse (region_of p) p.targets.items)) (source-none reverse p.header.action p.targets.items not)

  pub late-none : (ps : List FilePatch) → has_moved ps ≡ false → list_any (is_late all) (pieces_in text reverse ps) ≡ false
  late-none [] none = refl
  late-none (p ∷ ps) none =
      let both = or_parts (is_moved p.header.action) (has_moved ps) none in
      ap (λ b. b || list_any (is_late all) (pieces_in text reverse ps)) (one-none p both.0) ∙ late-none ps both.1

pub nobody-late : (reverse : Bool) (v : SetView) → has_moved v.patches ≡ false → has_late (pieces_of_set reverse v) ≡ false
nobody-late reverse v none = late-none v.text reverse (pieces_of_set reverse v) v.patches none

-- ---- the pieces of a text

module _ (o : PlainOptions) (known : List (List ℕ)) (text : List ℕ) where
  pieces-match : (ps : List FilePatch) → map (λ p. p.targets.items) ps ≡ map (λ p. targets_of o known (header_of text p.header)) ps
      → map (piece_for o known text) (map region_of ps) ≡ pieces_in text o.reverse ps
  pieces-match [] same = refl
  pieces-match (p ∷ ps) same =
      let first : p.targets.items ≡ targets_of o known (header_of text p.header) = cc in
      let rest : map (λ (q : FilePatch). q.targets.items) ps ≡ map (λ (q : FilePatch). targets_of o known (header_of text q.header)) ps = cc in
      ap (λ (ts : List Target). piece_of text o.reverse (region_of p) ts ∷ map (piece_for o known text) (map region_of ps)) (sym first)
      ∙ ap (λ (others : List Piece). piece_of text o.reverse (region_of p) p.targets.items ∷ others) (pieces-match ps rest)

module _ (o : PlainOptions) (given : List ℕ) (v : SetView) (read : IsRead o given v) (free : refusal o given ≡ None) where
  pieces-read : pieces_for o v.text (plain_patches v) ≡ pieces_of_set o.reverse v
  pieces-read =
      let known = known_names o (plain_patches v) in
      ap (λ (rs : List Region). map (piece_for o known v.text) rs) (sym read.regions)
      ∙ pieces-match o known v.text v.patches read.names.targets

  ordered-is : ordered o given ≡ put_in_order o.reverse given v.text (pieces_of_set o.reverse v)
  ordered-is =
      ap (λ (r : Option SetFault). cond (is_some r) given (by_patches o given (completed given) (patches_of (ways_of o) (completed given)))) free
      ∙ ap (λ t. by_patches o given t (patches_of (ways_of o) t)) (sym read.text)
      ∙ ap (λ (r : Result (List PlainPatch) Fault). by_patches o given v.text r) read.patches
      ∙ ap (put_in_order o.reverse given v.text) pieces-read

  pub kept : has_late (pieces_of_set o.reverse v) ≡ false → ordered o given ≡ given
  kept none = ordered-is ∙ ap (λ b. cond b (new_text o.reverse v) given) none

  pub moved : has_late (pieces_of_set o.reverse v) ≡ true → ordered o given ≡ new_text o.reverse v
  moved some = ordered-is ∙ ap (λ b. cond b (new_text o.reverse v) given) some

pub refused-stays : (o : PlainOptions) (given : List ℕ) (fault : SetFault) → refusal o given ≡ Some fault → ordered o given ≡ given
refused-stays o given fault is = ap (λ (r : Option SetFault). cond (is_some r) given (by_patches o given (completed given) (patches_of (ways_of o) (completed given)))) is

-- a fault of the text that was given is one of the text in order
pub fault-stays : (o : PlainOptions) (given : List ℕ) (fault : SetFault) → (fault ≡ faults.Memory) ⊎ (refusal o given ≡ Some fault) → (fault ≡ faults.Memory) ⊎ (refusal o (ordered o given) ≡ Some fault)
fault-stays o given fault (inl memory) = inl memory
fault-stays o given fault (inr is) = inr (ap (refusal o) (refused-stays o given fault is) ∙ is)
