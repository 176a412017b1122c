-- A set that is made of file patches with their targets.
use Rattle.std.proofs.Common.{◌≡◌, ℕ, List, map, Option, None, option_map, arith, refl, sym, ap, subst, ◌∙◌}
use Rattle.std.specs.List.{find}
use Rattle.std.specs.Option.{ForSome}
use Rattle.read_file_patch.specs.declared.FilePatch.{FilePatch}
use Rattle.read_file_patch.specs.PlainPatch.{patch_of}
use Rattle.patch_options.specs.PlainJob.{PlainOptions}
use Rattle.read_file_patch.specs.declared.derived.Target.{Target}
use Rattle.read_file_patch.specs.Targets.{HasTemps}
use Rattle.read_patch_text.specs.Regions.{region_of, regions_of}
use Rattle.patch_set.specs.Asked.{ways_of}
use Rattle.patch_set.specs.Skipped.{skipped_changes}
use Rattle.patch_set.specs.Spans.{ArePlaced}
use Rattle.patch_set.specs.Looks.{is_reserving}
use Rattle.patch_set.specs.Named.{known_names, output_of}
use Rattle.patch_set.specs.Naming.{AreNamed, HaveTargets}
use Rattle.patch_set.specs.Fresh.{AreWhole}
use Rattle.patch_set.specs.SetView.{SetView, HasTargets, IsSetOf, plain_patches}
use Rattle.patch_set.specs.Refusals.{reserved}
use Rattle.patch_set.specs.declared.fault.SetFault.TheVariants as faults
use Rattle.patch_set.proofs.Named.{named-few, named-count, named-hunks, named-lawful, named-placed, named-plain, named-regions, named-targets}
use Rattle.patch_set.proofs.Found.{named-fit, output-fit, reserved-named}

has-targets : (o : PlainOptions) (text : List ℕ) (known : List (List ℕ)) (ps : List FilePatch) (v : SetView)
    → v.text ≡ text → AreNamed o text known ps v.patches → v.output ≡ output_of o known → ForSome v.output HasTemps
    → find (is_reserving v.output) v.patches ≡ None → HasTargets o known v
has-targets o text known ps v same are out temps none = record {
  targets = rw same (named-targets o text known ps v.patches are);
  output = out;
  few = named-few o text known ps v.patches are;
  fit = named-fit o text known v.output ps v.patches are none;
  output_fit = λ some. output-fit v.output v.patches some temps none;
}

set-of : (o : PlainOptions) (text : List ℕ) (ps : List FilePatch) (v : SetView)
    → v.text ≡ text → v.ways ≡ ways_of o → AreNamed o text (known_names o (map (patch_of text) ps)) ps v.patches
    → v.output ≡ output_of o (known_names o (map (patch_of text) ps)) → ForSome v.output HasTemps
    → find (is_reserving v.output) v.patches ≡ None → map region_of ps ≡ regions_of (ways_of o) text → ArePlaced text 0 0 ps → v.skipped ≡ skipped_changes (ways_of o) text → IsSetOf o text (map (patch_of text) ps) v
set-of o text ps v same ways are out temps none regions at skips =
    let known = known_names o (map (patch_of text) ps) in
    let plain : plain_patches v ≡ map (patch_of text) ps = ap (λ t. map (patch_of t) v.patches) same ∙ named-plain o text known ps v.patches are in
    record {
      text = same;
      ways = ways;
      plain = plain;
      regions = rw same (named-regions o text known ps v.patches are ∙ regions);
      spans = rw same (named-placed o text known 0 0 ps v.patches are at);
      skipped = skips ∙ sym (ap (skipped_changes (ways_of o)) same);
      names = subst (λ rs. HasTargets o (known_names o rs) v) (sym plain) (has-targets o text known ps v same are out temps none);
    }

pub none-found : (found : Option FilePatch) → None ≡ option_map (λ q. q.header.opening) found → found ≡ None
none-found None is = refl
none-found (Option.Some q) is = absurd cc

-- the set holds these file patches, and this output
pub made-set : (o : PlainOptions) (text : List ℕ) (ps qs : List FilePatch) (output : Option Target) (v : SetView)
    → v.text ≡ text → v.ways ≡ ways_of o → v.patches ≡ qs → v.output ≡ output → HaveTargets o text ps qs output
    → find (is_reserving output) qs ≡ None
    → map region_of ps ≡ regions_of (ways_of o) text → ArePlaced text 0 0 ps → v.skipped ≡ skipped_changes (ways_of o) text → IsSetOf o text (map (patch_of text) ps) v
made-set o text ps qs output v same ways patches out have none regions at skips =
    set-of o text ps v same ways (subst (λ rs. AreNamed o text (known_names o (map (patch_of text) ps)) ps rs) (sym patches) have.are) (out ∙ have.out)
    (subst (λ x. ForSome x HasTemps) (sym out) have.temps)
    (ap (λ x. find (is_reserving x) v.patches) out ∙ ap (λ rs. find (is_reserving output) rs) patches ∙ none) regions at skips

pub kept : (o : PlainOptions) (text : List ℕ) (ps qs : List FilePatch) (output : Option Target) → HaveTargets o text ps qs output → AreWhole (ways_of o) text ps → AreWhole (ways_of o) text qs
kept o text ps qs output have whole =
    let known = known_names o (map (patch_of text) ps) in
    record {
      lawful = named-lawful o text known ps qs have.are whole.lawful;
      regions = named-regions o text known ps qs have.are ∙ whole.regions;
      placed = named-placed o text known 0 0 ps qs have.are whole.placed;
      count = omega (arith, named-count o text known ps qs have.are, whole.count);
      hunks = omega (arith, named-hunks o text known ps qs have.are, whole.hunks);
    }

-- the line of a name of a temporary, or none
pub told-reserved : (o : PlainOptions) (text : List ℕ) (ps qs : List FilePatch) (output : Option Target) (line : Option ℕ) → HaveTargets o text ps qs output
    → line ≡ option_map (λ q. q.header.opening) (find (is_reserving output) qs)
    → reserved o (map (patch_of text) ps) ≡ option_map faults.Reserved line
told-reserved o text ps qs output line have is = sym (reserved-named o text output ps qs line have.are have.out is)
