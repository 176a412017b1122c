use Rattle.std.proofs.Common.{None, Some, inr, map, sym, ◌∙◌}
use Rattle.read_file_patch.specs.PlainPatch.{patch_of}
use Rattle.patch_options.specs.PlainJob.{plain_options}
use Rattle.patch_set.specs.Named.{known_names}
use Rattle.patch_set.specs.Refusals.{reserved_patch}
use Rattle.patch_set.proofs.Refusing.{line-refusal}
use Rattle.patch_set.proofs.reserving.refuse_reserved.Goals as goal

pub returns-in-Some : goal.returns-in-Some
returns-in-Some c = record {
  refused = (
      let o = plain_options c.args.options.now in
      let ps = map (patch_of c.args.text.now) c.args.patches.now in
      let known = known_names o ps in
      inr (line-refusal (reserved_patch o known ps) (Some c.in-Some.line) (sym c.in-Some.is ∙ c.in_ok-line.ensures known)));
}

pub returns-in-None : goal.returns-in-None
returns-in-None c = record {
  refused = (
      let o = plain_options c.args.options.now in
      let ps = map (patch_of c.args.text.now) c.args.patches.now in
      let known = known_names o ps in
      line-refusal (reserved_patch o known ps) None (sym c.in-None.is ∙ c.in_ok-line.ensures known));
}
