-- A set that is read for a dry run is the one that is read for any other.
use Rattle.std.proofs.Common.{◌≡◌, ℕ, Bool, List, Result, Ok, Err, refl, ap}
use Rattle.hunk_core.specs.Reading.{Fault}
use Rattle.line_list.specs.Completed.{completed}
use Rattle.read_file_patch.specs.PlainPatch.{PlainPatch}
use Rattle.patch_set.specs.Asked.{ways_of}
use Rattle.filter_choice.specs.Digested.{DigestView, IsDigestOf}
use Rattle.filter_choice.specs.Outlined.{IsOutline, OutlineView}
use Rattle.patch_set.specs.Refusals.{is_too_long, refusal, refusal_of}
use Rattle.patch_set.specs.SetView.{SetView, IsRead}
use Rattle.patch_set.specs.declared.fault.SetFault.TheVariants as faults
use Rattle.read_patch_text.specs.Patches.{patches_of}
use Rattle.std.specs.Prelude.{if◌then◌else◌, Some}
use Rattle.filter_whole_text.specs.Texts.{defaults, dry_defaults}

pub read-alike : (skip : Bool) (given : List ℕ) (v : SetView) → IsRead (dry_defaults skip) given v → IsRead (defaults skip) given v
read-alike skip given v h = record {
  text = h.text;
  ways = h.ways;
  patches = h.patches;
  regions = h.regions;
  spans = h.spans;
  skipped = h.skipped;
  names = record { targets = h.names.targets; output = h.names.output; few = h.names.few; fit = h.names.fit; output_fit = h.names.output_fit };
}

pub outlined-alike : (skip : Bool) (given : List ℕ) (v : OutlineView) → IsOutline (dry_defaults skip) given v → IsOutline (defaults skip) given v
outlined-alike skip given v h = record { text = h.text; patches = h.patches }

pub digested-alike : (skip : Bool) (given : List ℕ) (v : DigestView) → IsDigestOf (dry_defaults skip) given v → IsDigestOf (defaults skip) given v
digested-alike skip given v h = record { text = h.text; patches = h.patches; regions = h.regions; are = h.are }

of-alike : (skip : Bool) (text : List ℕ) (r : Result (List PlainPatch) Fault) → refusal_of (dry_defaults skip) text r ≡ refusal_of (defaults skip) text r
of-alike skip text (Ok ps) = refl
of-alike skip text (Err f) = refl

pub refused-alike : (skip : Bool) (text : List ℕ) → refusal (dry_defaults skip) text ≡ refusal (defaults skip) text
refused-alike skip text = ap (λ r. if is_too_long text then Some faults.TooLong else r) (of-alike skip text (patches_of (ways_of (defaults skip)) (completed text)))
