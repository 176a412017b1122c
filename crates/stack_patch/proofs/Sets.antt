-- The patch of a text is that of the set which is read from it.
use Rattle.std.proofs.Common.{◌≡◌, ℕ, List, [], ◌∷◌, map, Option, None, Some, refl, sym, ◌∙◌, ap}
use Rattle.std.specs.Prelude.{Result, Ok, Err}
use Rattle.line_list.specs.Completed.{completed}
use Rattle.outside.specs.Files.{Files}
use Rattle.hunk_core.specs.Reading.{Fault}
use Rattle.read_file_patch.specs.declared.FilePatch.{FilePatch}
use Rattle.read_file_patch.specs.PlainPatch.{PlainPatch, header_of, patch_of}
use Rattle.read_file_patch.specs.declared.derived.Target.{Target}
use Rattle.read_patch_text.specs.Patches.{patches_of}
use Rattle.read_clean_text.specs.Reading.{clean_of}
use Rattle.patch_set.specs.declared.fault.SetFault.{SetFault}
use Rattle.patch_set.specs.Asked.{ways_of}
use Rattle.patch_set.specs.Named.{known_names, targets_of}
use Rattle.patch_set.specs.Refusals.{refusal}
use Rattle.patch_set.specs.declared.skipped.BinaryChange.{BinaryChange}
use Rattle.patch_set.specs.Skipped.{skipped_changes}
use Rattle.patch_set.specs.SetView.{SetView, IsRead, plain_patches}
use Rattle.patch_run.specs.OnePatch.{Item}
use Rattle.patch_run.specs.Run.{run_of, set_run, item_of, moved_in, items_of}
use Rattle.patch_run.proofs.Matching.{moved-match}
use Rattle.series_stack.specs.Commands.{Patch}
use Rattle.stack_patch.specs.Reading.{push_options, item_for, items_for, targets_for, application_of, patch_for, patch_of_set, patch_of_text, patch_in, unless_refused, read_patch}

module _ (text : List ℕ) (known : List (List ℕ)) where
  abbrev own : FilePatch → List Target
  own p = p.targets.items

  abbrev given : FilePatch → List Target
  given p = targets_of push_options known (header_of text p.header)

  items_same : (moved : List (List Target)) (ps : List FilePatch) → map own ps ≡ map given ps → map (item_of text [] moved) ps ≡ map (item_for push_options known moved) (map (patch_of text) ps)
  items_same moved [] is = refl
  items_same moved (p ∷ ps) is =
      let first : own p ≡ given p = cc in
      let rest : map own ps ≡ map given ps = cc in
      ap (λ (t : List Target). record { patch = patch_of text p; targets = t; skipped = []; moved = moved } ∷ map (item_of text [] moved) ps) first
      ∙ ap (λ (l : List Item). item_for push_options known moved (patch_of text p) ∷ l) (items_same moved ps rest)

-- the patch over these file patches and this output
abbrev patch_over : List PlainPatch → Option Target → List Item → Patch
patch_over ps output items = record { targets = targets_for push_options ps; run = λ (f : Files). application_of (run_of push_options output items f) }

module _ (text : List ℕ) (v : SetView) (is : IsRead push_options text v) where
  no_output : v.output ≡ None
  unfolding push_options
  no_output = is.names.output

  none_skipped : v.skipped ≡ []
  unfolding push_options skipped_changes
  none_skipped = is.skipped

  same_items : items_of v ≡ items_for push_options (plain_patches v)
  same_items =
      let known = known_names push_options (plain_patches v) in
      ap (λ (l : List BinaryChange). map (item_of v.text l (moved_in v.patches)) v.patches) none_skipped
      ∙ items_same v.text known (moved_in v.patches) v.patches is.names.targets
      ∙ ap (λ (l : List (List Target)). map (item_for push_options known l) (plain_patches v)) (sym (moved-match push_options known v.text v.patches is.names.targets))

  same_patch : patch_for (plain_patches v) ≡ patch_of_set v
  same_patch =
      ap (λ (l : List Item). patch_over (plain_patches v) None l) (sym same_items)
      ∙ ap (λ (w : Option Target). patch_over (plain_patches v) w (items_of v)) (sym no_output)

  text_read : refusal push_options text ≡ None → patch_of_text text ≡ Some (patch_of_set v)
  text_read none =
      ap (λ (o : Option SetFault). unless_refused o (patch_in (patches_of (ways_of push_options) (completed text)))) none
      ∙ ap (λ (t : List ℕ). patch_in (patches_of (ways_of push_options) t)) (sym is.text)
      ∙ ap (λ (r : Result (List PlainPatch) Fault). patch_in r) is.patches
      ∙ ap (λ (p : Patch). Some p) same_patch

  -- what the set does, its file patches do
  pub same_run : (f : Files) → set_run push_options v f ≡ run_of push_options None (items_for push_options (plain_patches v)) f
  same_run f =
      ap (λ (w : Option Target). run_of push_options w (items_of v) f) no_output
      ∙ ap (λ (l : List Item). run_of push_options None l f) same_items

pub set_read : (given : List ℕ) (v : SetView) → IsRead push_options (clean_of push_options given) v → refusal push_options (clean_of push_options given) ≡ None → read_patch (Some given) ≡ Some (patch_of_set v)
unfolding read_patch
set_read given v is none = text_read (clean_of push_options given) v is none
