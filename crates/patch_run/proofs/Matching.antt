-- The file patches of a text, and the set that is read from it, are carried out alike.
use Rattle.std.proofs.Common.{◌≡◌, List, [], ◌∷◌, ℕ, map, if◌then◌else◌, refl, sym, ◌∙◌, ap, subst}
use Rattle.outside.specs.Files.{Files}
use Rattle.outside.specs.TreeView.{TreeView}
use Rattle.outside.specs.SinkView.{SinkView}
use Rattle.read_file_patch.specs.declared.derived.Target.{Target}
use Rattle.read_file_patch.specs.declared.FilePatch.{FilePatch}
use Rattle.read_file_patch.specs.Actions.{is_moved}
use Rattle.read_file_patch.specs.PlainPatch.{PlainPatch, header_of, patch_of}
use Rattle.patch_options.specs.PlainJob.{PlainOptions}
use Rattle.patch_set.specs.Named.{known_names, output_of, targets_of}
use Rattle.patch_set.specs.declared.skipped.BinaryChange.{BinaryChange}
use Rattle.patch_set.specs.SetView.{SetView, plain_patches, IsRead}
use Rattle.apply_task.specs.Ready.{moved_of}
use Rattle.apply_task.specs.declared.fault.RunFault.{RunFault}
use Rattle.patch_run.specs.OnePatch.{Item}
use Rattle.patch_run.specs.Run.{run_of, set_run, item_of, moved_in, items_of}
use Rattle.patch_run.specs.Doing.{IsCutAt}
use Rattle.patch_run.specs.Outcome.{moved_for, item_for, items_for, run_for}

abbrev item_with : List BinaryChange → List (List Target) → PlainPatch → List Target → Item
item_with skipped moved p targets = record { patch = p; targets = targets; skipped = skipped; moved = moved }

module _ (o : PlainOptions) (known : List (List ℕ)) (text : List ℕ) where
  -- the targets that a header gives
  abbrev given : FilePatch → List Target
  given p = targets_of o known (header_of text p.header)

  -- file patches with the targets that their headers give
  items-match : (skipped : List BinaryChange) (moved : List (List Target)) (ps : List FilePatch) → map (λ p. p.targets.items) ps ≡ map given ps
      → map (item_for o known skipped moved) (map (patch_of text) ps) ≡ map (item_of text skipped moved) ps
  items-match skipped moved [] same = refl
  items-match skipped moved (p ∷ ps) same =
      let first : p.targets.items ≡ given p = cc in
      let rest : map (λ p. p.targets.items) ps ≡ map given ps = cc in
      ap (λ (ts : List Target). item_with skipped moved (patch_of text p) ts ∷ map (item_for o known skipped moved) (map (patch_of text) ps)) (sym first)
      ∙ ap (λ (others : List Item). item_of text skipped moved p ∷ others) (items-match skipped moved ps rest)

  -- and the names of those that rename or copy a file
  pub moved-match : (ps : List FilePatch) → map (λ p. p.targets.items) ps ≡ map given ps → map (moved_for o known) (map (patch_of text) ps) ≡ moved_in ps
  moved-match [] same = refl
  moved-match (p ∷ ps) same =
      let first : p.targets.items ≡ given p = cc in
      let rest : map (λ p. p.targets.items) ps ≡ map given ps = cc in
      ap (λ (ts : List Target). (if is_moved p.header.action then ts else []) ∷ map (moved_for o known) (map (patch_of text) ps)) (sym first)
      ∙ ap (λ (others : List (List Target)). moved_of p ∷ others) (moved-match ps rest)

module _ (o : PlainOptions) (given : List ℕ) (v : SetView) (read : IsRead o given v) where
  pub items-read : items_for o v.text (plain_patches v) ≡ items_of v
  items-read =
      let known = known_names o (plain_patches v) in
      ap (λ (l : List BinaryChange). map (item_for o known l (map (moved_for o known) (plain_patches v))) (plain_patches v)) (sym read.skipped)
      ∙ ap (λ (l : List (List Target)). map (item_for o known v.skipped l) (plain_patches v)) (moved-match o known v.text v.patches read.names.targets)
      ∙ items-match o known v.text v.skipped (moved_in v.patches) v.patches read.names.targets

  -- the run over the file patches of a text is that over the set that is read from it
  pub run-match : (f : Files) → run_for o v.text (plain_patches v) f ≡ set_run o v f
  run-match f =
      ap (λ t. run_of o t (items_for o v.text (plain_patches v)) f) (sym read.names.output)
      ∙ ap (λ (items : List Item). run_of o v.output items f) items-read

  -- a run over the set that was cut off, as one over the file patches of its text
  pub cut-match : (f : Files) (e : RunFault) (w : TreeView) (c d : SinkView)
      → IsCutAt e w c d o v.output (items_of v) f → IsCutAt e w c d o (output_of o (known_names o (plain_patches v))) (items_for o v.text (plain_patches v)) f
  cut-match f e w c d at =
      subst (λ t. IsCutAt e w c d o t (items_for o v.text (plain_patches v)) f) read.names.output
      (subst (λ (items : List Item). IsCutAt e w c d o v.output items f) (sym items-read) at)
