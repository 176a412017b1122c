use Rattle.std.proofs.Common.{refl, sym, ap, get_or, arith, ◌∙◌, List, map, take, subst}
use Rattle.patch_options.specs.PlainJob.{plain_options}
use Rattle.patch_set.proofs.Joined.{joined-nil}
use Rattle.patch_set.proofs.Walked.{walked-more}
use Rattle.std.proofs.lemmas.List.{take_all}
use Rattle.read_file_patch.specs.declared.FilePatch.{FilePatch}
use Rattle.read_file_patch.specs.PlainPatch.{patch_of}
use Rattle.read_file_patch.specs.Numbered.{joined_by}
use Rattle.patch_set.specs.Named.{patch_names}
use Rattle.patch_set.specs.Naming.{AreNamed}
use Rattle.outside.proofs.Exits.{on_ok_none}
use Rattle.patch_set.proofs.names.name_patches.Goals as goal

pub loop-patch-init : goal.loop-patch-init
loop-patch-init c = record {
  joined = sym (joined-nil c.args.numbers.now);
  named = record { are = λ others. tt };
  rest = refl;
}

pub loop-patch-preserved : goal.loop-patch-preserved
loop-patch-preserved c =
    let qs = c.loop-patch.patches in
    let i = c.loop-patch.patch-index in
    let r = c.patch-item.result in
    walked-more (plain_options c.args.options.now) c.args.text.now c.args.numbers.now c.loop-patch.numbers c.name_patch.new.numbers
    i c.args.patches.now qs (get_or qs i r) c.name_patch.new.patch
    c.loop-patch.invariant (omega arith) (omega arith) (ap (λ x. get_or qs i x) c.patch-item.is) c.in_ok-name_patch.ensures.known c.in_ok-name_patch.ensures.named

pub returns : goal.returns
returns c = record {
  known = (
      c.loop-patch.invariant.joined
      ∙ ap (λ (l : List FilePatch). joined_by c.args.numbers.now (patch_names (plain_options c.args.options.now) (map (patch_of c.args.text.now) l))) (take_all c.loop-patch.patch-index c.args.patches.now c.loop-patch-test.false));
  named = (
      λ others.
      let o = plain_options c.args.options.now in
      let known = joined_by c.loop-patch.numbers others in
      let ps = c.args.patches.now in
      let i = c.loop-patch.patch-index in
      subst (λ (l : List FilePatch). AreNamed o c.args.text.now known l c.loop-patch.patches) (take_all i ps c.loop-patch-test.false)
      (subst (λ (l : List FilePatch). AreNamed o c.args.text.now known (take i ps) l) (take_all i c.loop-patch.patches (omega arith)) (c.loop-patch.invariant.named.are others)));
}

pub returns-in_err-name_patch : goal.returns-in_err-name_patch
returns-in_err-name_patch c = record {
  known = on_ok_none _ _ c.from_residual.result c.from_residual.ensures.1;
  named = on_ok_none _ _ c.from_residual.result c.from_residual.ensures.1;
}
