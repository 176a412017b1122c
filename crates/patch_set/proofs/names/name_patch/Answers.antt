use Rattle.std.proofs.Common.{◌≡◌, length, map, refl, ap, ◌∙◌, arith}
use Rattle.std.proofs.lemmas.List.{length-map}
use Rattle.read_file_patch.specs.PlainPatch.{header_of}
use Rattle.patch_options.specs.PlainJob.{plain_options}
use Rattle.read_file_patch.specs.Numbered.{joined_by}
use Rattle.patch_set.specs.Named.{names_of, targets_of, target_in}
use Rattle.patch_set.proofs.Joined.{names-few}
use Rattle.outside.proofs.Exits.{on_ok_none}
use Rattle.patch_set.proofs.names.name_patch.Goals as goal

pub returns : goal.returns
returns c = record {
  known = c.in_ok-patch.ensures.known ∙ ap (joined_by c.args.numbers.now) (c.deref.ensures.value ∙ c.in_ok-names.ensures.names);
  named = (
      λ others.
      let o = plain_options c.args.options.now in
      let known = joined_by c.targets_for.new.numbers others in
      let h = header_of c.args.text.now c.args.patch.now.header in
      let names = c.deref.ensures.value ∙ c.in_ok-names.ensures.names in
      let targets : c.in_ok-patch.field-0.items ≡ targets_of o known h =
      c.in_ok-patch.ensures.targets others ∙ ap (λ ns. map (target_in o known) ns) names in
      record {
        header = refl;
        span = refl;
        hunk_spans = refl;
        change = refl;
        old_absent = refl;
        new_absent = refl;
        first = refl;
        targets = targets;
        few = omega (arith, ap length targets, length-map (names_of o h) (target_in o known), names-few o h);
        temps = c.in_ok-patch.ensures.temps;
      });
}

pub returns-in_err-patch : goal.returns-in_err-patch
returns-in_err-patch c = record {
  known = on_ok_none _ _ c.from_residual-in_err-patch.result c.from_residual-in_err-patch.ensures.1;
  named = on_ok_none _ _ c.from_residual-in_err-patch.result c.from_residual-in_err-patch.ensures.1;
}
