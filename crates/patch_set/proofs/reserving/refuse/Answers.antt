use Rattle.std.proofs.Common.{inr, map, sym, subst}
use Rattle.read_file_patch.specs.PlainPatch.{patch_of}
use Rattle.patch_options.specs.PlainJob.{plain_options}
use Rattle.patch_set.specs.Refusals.{garbage, out_many, ed_reverse, reserved}
use Rattle.patch_set.specs.SetView.{Meets}
use Rattle.patch_set.proofs.Found.{early-refusal, late-refusal}
use Rattle.patch_set.proofs.reserving.refuse.Goals as goal

pub returns-in-Some : goal.returns-in-Some
returns-in-Some c = record {
  refused = (
      let o = plain_options c.args.options.now in
      let text = c.args.text.now in
      let ps = map (patch_of text) c.args.patches.now in
      inr (early-refusal (garbage text ps) (out_many o ps) (ed_reverse o ps) (reserved o ps) c.in-Some.fault c.in-Some.ensures));
}

pub returns-in-None : goal.returns-in-None
returns-in-None c = record {
  refused = (
      let o = plain_options c.args.options.now in
      let text = c.args.text.now in
      let ps = map (patch_of text) c.args.patches.now in
      subst (λ r. Meets r c.refuse_reserved.result) (sym (late-refusal (garbage text ps) (out_many o ps) (ed_reverse o ps) (reserved o ps) c.in-None.ensures)) c.refuse_reserved.ensures.refused);
}
