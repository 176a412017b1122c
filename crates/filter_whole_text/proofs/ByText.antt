-- What is made of a set is told by its text.
use Rattle.std.proofs.Common.{◌≡◌, ℕ, Bool, false, List, [], ◌∷◌, length, map, refl, sym, ap, ◌∙◌}
use Rattle.std.specs.Prelude.{◌==◌, if◌then◌else◌, reverse}
use Rattle.std.specs.List.{flat_map, zip}
use Rattle.std.proofs.lemmas.List.Folds.{flat_map-map}
use Rattle.read_file_patch.specs.declared.FilePatch.{FilePatch}
use Rattle.read_file_patch.specs.PlainPatch.{PlainPatch, patch_of}
use Rattle.read_patch_text.specs.Patches.{patches_of}
use Rattle.read_patch_text.specs.Regions.{Region, region_of, regions_of}
use Rattle.patch_set.specs.Asked.{ways_of}
use Rattle.patch_set.specs.SetView.{SetView, IsRead, plain_patches}
use Rattle.flip_patch.specs.Flipped.{flipped}
use Rattle.split_recount.specs.Parts.{between, cuts_behind, parts, row_of, rows_of}
use Rattle.cli_tool_words.specs.PlainJobs.{PlainSplitJob}
use Rattle.hunk_core.proofs.TurnedLemmas.{reverse-map}
use Rattle.filter_whole_text.specs.Flips.{flipped_in, spot_flipped}
use Rattle.filter_whole_text.specs.Texts.{defaults, read_patches, patches_in, regions_in, Spot, spots_in, row_at, rows_in, parts_in}

-- a file patch of a set, as it is in the text
abbrev pub spot : List ℕ → FilePatch → Spot
spot text p = (region_of p, patch_of text p)

zip-both : (text : List ℕ) (ps : List FilePatch) → zip (map region_of ps) (map (patch_of text) ps) ≡ map (spot text) ps
zip-both text [] = refl
zip-both text (p ∷ ps) = ap (λ (ss : List Spot). spot text p ∷ ss) (zip-both text ps)

rows-same : (text : List ℕ) (ps : List FilePatch) → map (row_of text) ps ≡ map (row_at text) (map region_of ps)
rows-same text [] = refl
rows-same text (p ∷ ps) = ap (λ (rs : List (ℕ × List ℕ)). row_of text p ∷ rs) (rows-same text ps)

-- ---- a set that was read

module _ (skip : Bool) (text : List ℕ) (v : SetView) (read : IsRead (defaults skip) text v) where
  pub patches-by : patches_in skip text ≡ plain_patches v
  patches-by = ap read_patches (ap (patches_of (ways_of (defaults skip))) (sym read.text) ∙ read.patches)

  regions-by : regions_in skip text ≡ map region_of v.patches
  regions-by = ap (regions_of (ways_of (defaults skip))) (sym read.text) ∙ sym read.regions

  pub spots-by : spots_in skip text ≡ map (spot v.text) v.patches
  spots-by = ap (λ (rs : List Region). zip rs (patches_in skip text)) regions-by ∙ ap (λ (ps : List PlainPatch). zip (map region_of v.patches) ps) patches-by ∙ zip-both v.text v.patches

-- ---- what is made of it

pub rows-by : (j : PlainSplitJob) (text : List ℕ) (v : SetView) → IsRead (defaults j.skip_binary) text v → rows_of v ≡ rows_in j text
rows-by j text v read =
    rows-same v.text v.patches
    ∙ ap (map (row_at v.text)) (sym (regions-by j.skip_binary text v read))
    ∙ ap (λ (t : List ℕ). map (row_at t) (regions_in j.skip_binary text)) read.text

pub parts-by : (j : PlainSplitJob) (text : List ℕ) (v : SetView) → IsRead (defaults j.skip_binary) text v → parts j.every v ≡ parts_in j text
unfolding parts_in
parts-by j text v read =
    ap (λ (rows : List (ℕ × List ℕ)). if length v.text == 0 then [] else between 0 (cuts_behind j.every rows) (length v.text)) (rows-by j text v read)
    ∙ ap (λ (t : List ℕ). if length t == 0 then [] else between 0 (cuts_behind j.every (rows_in j text)) (length t)) read.text

pub flipped-by : (text : List ℕ) (v : SetView) → IsRead (defaults false) text v → flipped v ≡ flipped_in text
unfolding flipped flipped_in
flipped-by text v read =
    sym (flat_map-map (spot_flipped v.text) (spot v.text) (reverse v.patches))
    ∙ ap (flat_map (spot_flipped v.text)) (sym (reverse-map (spot v.text) v.patches))
    ∙ ap (λ (ss : List Spot). flat_map (spot_flipped v.text) (reverse ss)) (sym (spots-by false text v read))
    ∙ ap (λ (t : List ℕ). flat_map (spot_flipped t) (reverse (spots_in false text))) read.text
