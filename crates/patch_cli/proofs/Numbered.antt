-- A run over a set whose backups got their numbers is the run with these numbers over the file patches of its text.
use Rattle.std.proofs.Common.{◌≡◌, ℕ, List, [], ◌∷◌, map, Bool, true, false, if◌then◌else◌, Option, None, Some, refl, sym, ◌∙◌, ap, subst}
use Rattle.std.specs.Prelude.{option_map}
use Rattle.outside.specs.Files.{Files}
use Rattle.outside.specs.TreeView.{TreeView}
use Rattle.outside.specs.SinkView.{SinkView}
use Rattle.read_file_patch.specs.Actions.{is_moved}
use Rattle.read_file_patch.specs.PlainPatch.{PlainPatch, patch_of}
use Rattle.read_file_patch.specs.declared.FilePatch.{FilePatch}
use Rattle.read_file_patch.specs.declared.derived.Target.{Target}
use Rattle.patch_options.specs.PlainJob.{PlainOptions}
use Rattle.patch_options.specs.declared.options.BackupNumbers.{BackupNumbers}
use Rattle.patch_set.specs.Named.{known_names, output_of}
use Rattle.patch_set.specs.Skipped.{skipped_changes}
use Rattle.patch_set.specs.declared.skipped.BinaryChange.{BinaryChange}
use Rattle.patch_set.specs.SetView.{SetView, IsRead, plain_patches}
use Rattle.apply_task.specs.Ready.{moved_of}
use Rattle.apply_task.specs.Contexts.{Item}
use Rattle.apply_task.specs.declared.fault.RunFault.{RunFault}
use Rattle.patch_run.specs.Doing.{IsCutAt}
use Rattle.patch_run.specs.Outcome.{items_for}
use Rattle.patch_run.specs.Run.{run_of, set_run, item_of, moved_in, items_of}
use Rattle.patch_run.proofs.Matching.{items-read}
use Rattle.apply_backup_numbers.specs.Numbering.{asks_numbers, numbered_target}
use Rattle.apply_backup_numbers.specs.Renumbered.{Each, IsNumbered, IsNumberedIf, IsRetargeted, IsRenumbered}
use Rattle.patch_cli.specs.Numbered.{IsMade, numbered_item, numbered_run, asked_output, asked_items}

module _ (numbers : BackupNumbers) (f : Files) where
  abbrev next : Target → Target
  next t = numbered_target numbers f t

  targets-next : (ts us : List Target) → Each (IsNumbered numbers (Some f)) ts us → us ≡ map next ts
  targets-next [] [] each = refl
  targets-next [] (u ∷ us) each = absurd each
  targets-next (t ∷ ts) [] each = absurd each
  targets-next (t ∷ ts) (u ∷ us) each = ap (λ (x : Target). x ∷ us) (each.0.next f refl) ∙ ap (λ (l : List Target). next t ∷ l) (targets-next ts us each.1)

  output-next : (t u : Option Target) → IsNumberedIf numbers (Some f) t u → u ≡ option_map next t
  output-next None None is = refl
  output-next None (Some u) is = absurd is
  output-next (Some t) None is = absurd is
  output-next (Some t) (Some u) is = ap (λ (x : Target). Some x) (is.next f refl)

  next-if : (b : Bool) (ts : List Target) → (if b then map next ts else []) ≡ map next (if b then ts else [])
  next-if true ts = refl
  next-if false ts = refl

  moved-next : (ps qs : List FilePatch) → Each (IsRetargeted numbers (Some f)) ps qs → moved_in qs ≡ map (λ ts. map next ts) (moved_in ps)
  moved-next [] [] each = refl
  moved-next [] (q ∷ qs) each = absurd each
  moved-next (p ∷ ps) [] each = absurd each
  moved-next (p ∷ ps) (q ∷ qs) each =
      let one : moved_of q ≡ map next (moved_of p) =
      ap (λ (x : FilePatch). if is_moved x.header.action then q.targets.items else []) each.0.same
      ∙ ap (λ (ts : List Target). if is_moved p.header.action then ts else []) (targets-next p.targets.items q.targets.items each.0.targets)
      ∙ next-if (is_moved p.header.action) p.targets.items in
      ap (λ (ts : List Target). ts ∷ moved_in qs) one ∙ ap (λ (l : List (List Target)). map next (moved_of p) ∷ l) (moved-next ps qs each.1)

  abbrev item_with : List BinaryChange → List (List Target) → PlainPatch → List Target → Item
  item_with skipped moved p targets = record { patch = p; targets = targets; skipped = skipped; moved = moved }

  items-next : (text : List ℕ) (skipped : List BinaryChange) (moved : List (List Target)) (ps qs : List FilePatch) → Each (IsRetargeted numbers (Some f)) ps qs
      → map (item_of text skipped (map (λ ts. map next ts) moved)) qs ≡ map (numbered_item numbers f) (map (item_of text skipped moved) ps)
  items-next text skipped moved [] [] each = refl
  items-next text skipped moved [] (q ∷ qs) each = absurd each
  items-next text skipped moved (p ∷ ps) [] each = absurd each
  items-next text skipped moved (p ∷ ps) (q ∷ qs) each =
      let all = map (λ ts. map next ts) moved in
      let one : item_of text skipped all q ≡ numbered_item numbers f (item_of text skipped moved p) =
      ap (λ (x : FilePatch). item_with skipped all (patch_of text x) q.targets.items) each.0.same
      ∙ ap (λ (ts : List Target). item_with skipped all (patch_of text p) ts) (targets-next p.targets.items q.targets.items each.0.targets) in
      ap (λ (i : Item). i ∷ map (item_of text skipped all) qs) one ∙ ap (λ (l : List Item). numbered_item numbers f (item_of text skipped moved p) ∷ l) (items-next text skipped moved ps qs each.1)

  set-next : (v w : SetView) → IsRenumbered numbers (Some f) v w → v.skipped ≡ skipped_changes v.ways v.text → items_of w ≡ map (numbered_item numbers f) (items_of v)
  set-next v w is skips =
      ap (λ (l : List (List Target)). map (item_of w.text w.skipped l) w.patches) (moved-next v.patches w.patches is.patches)
      ∙ ap (λ (text : List ℕ). map (item_of text w.skipped (map (λ ts. map next ts) (moved_in v.patches))) w.patches) is.text
      ∙ ap (λ (l : List BinaryChange). map (item_of v.text l (map (λ ts. map next ts) (moved_in v.patches))) w.patches) (is.skipped ∙ sym skips)
      ∙ items-next v.text v.skipped (moved_in v.patches) v.patches w.patches is.patches

-- ---- with the options
module _ (o : PlainOptions) (given : List ℕ) (before v : SetView) (read : IsRead o given before) (f : Files) where
  abbrev ps : List PlainPatch
  ps = plain_patches before

  abbrev outputs : Bool → Option Target
  outputs b = if b then option_map (numbered_target o.numbers f) (output_of o (known_names o ps)) else output_of o (known_names o ps)

  abbrev items : Bool → List Item
  items b = if b then map (numbered_item o.numbers f) (items_for o before.text ps) else items_for o before.text ps

  output-by : (b : Bool) → IsMade b o.numbers (Some f) before v → v.output ≡ outputs b
  output-by true is = output-next o.numbers f before.output v.output is.output ∙ ap (λ (x : Option Target). option_map (numbered_target o.numbers f) x) read.names.output
  output-by false is = ap (λ (s : SetView). s.output) is ∙ read.names.output

  items-by : (b : Bool) → IsMade b o.numbers (Some f) before v → items_of v ≡ items b
  items-by true is = set-next o.numbers f before v is (read.skipped ∙ ap (λ w. skipped_changes w before.text) (sym read.ways)) ∙ ap (λ (l : List Item). map (numbered_item o.numbers f) l) (sym (items-read o given before read))
  items-by false is = ap items_of is ∙ sym (items-read o given before read)

  pub run-made : IsMade (asks_numbers o) o.numbers (Some f) before v → numbered_run o before.text ps f ≡ set_run o v f
  run-made is =
      ap (λ t. run_of o t (asked_items o f before.text ps) f) (sym (output-by (asks_numbers o) is))
      ∙ ap (λ (l : List Item). run_of o v.output l f) (sym (items-by (asks_numbers o) is))

  pub cut-made : IsMade (asks_numbers o) o.numbers (Some f) before v → (e : RunFault) (w : TreeView) (c d : SinkView)
      → IsCutAt e w c d o v.output (items_of v) f → IsCutAt e w c d o (asked_output o f ps) (asked_items o f before.text ps) f
  cut-made is e w c d at =
      subst (λ t. IsCutAt e w c d o t (asked_items o f before.text ps) f) (output-by (asks_numbers o) is)
      (subst (λ (l : List Item). IsCutAt e w c d o v.output l f) (items-by (asks_numbers o) is) at)
