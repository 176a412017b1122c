use Rattle.std.proofs.Common.{◌≡◌, ◌⊎◌, None, Some, Ok, map, subst, sym, ap, ◌∙◌}
use Rattle.read_file_patch.specs.PlainPatch.{patch_of}
use Rattle.patch_options.specs.PlainJob.{plain_options}
use Rattle.patch_set.specs.declared.fault.SetFault.TheVariants as faults
use Rattle.patch_set.specs.Fresh.{AreWhole}
use Rattle.patch_set.specs.Naming.{HaveTargets}
use Rattle.patch_set.specs.Refusals.{refusal_of}
use Rattle.patch_set.specs.Skipped.{skipped_changes}
use Rattle.patch_set.proofs.Made.{kept, made-set}
use Rattle.outside.proofs.Exits.{if_ok_none}
use Rattle.patch_set.proofs.Completing.{meets-memory}
use Rattle.patch_set.proofs.reading.set_of.Goals as goal

pub untried-requires : goal.untried-requires
untried-requires c =
    let o = plain_options c.args.options.now in
    let named = c.in-Ok.named in
    subst (λ w. AreWhole w c.args.text.items named.patches.items) (sym c.ways_of.ensures)
    (kept o c.args.text.items c.args.patches.items named.patches.items named.output
    (subst (λ t. HaveTargets o t c.args.patches.items named.patches.items named.output) c.deref.ensures.value c.in-Ok.ensures.targets) c.requires.whole)

pub returns-in-Err : goal.returns-in-Err
returns-in-Err c = record {
  set = tt;
  fresh = tt;
  whole = tt;
  marks = tt;
  refused = (
      subst (λ t. (c.in-Err.fault ≡ faults.Memory) ⊎ (refusal_of (plain_options c.args.options.now) t (Ok (map (patch_of t) c.args.patches.items)) ≡ Some c.in-Err.fault))
      c.deref.ensures.value c.in-Err.ensures.refused);
}

pub returns-in_ok-untried-in-Ok : goal.returns-in_ok-untried-in-Ok
returns-in_ok-untried-in-Ok c = record {
  set = (
      let o = plain_options c.args.options.now in
      let named = c.in-Ok.named in
      let is = c.in_ok-untried-in-Ok.ensures.untried in
      made-set o c.args.text.items c.args.patches.items named.patches.items named.output
      c.in_ok-untried-in-Ok.field-0 is.text (is.ways ∙ c.ways_of.ensures) is.patches is.output
      (subst (λ t. HaveTargets o t c.args.patches.items named.patches.items named.output) c.deref.ensures.value c.in-Ok.ensures.targets)
      c.in-Ok.ensures.lasting c.requires.whole.regions c.requires.whole.placed (is.skipped ∙ ap (λ w. skipped_changes w c.args.text.items) c.ways_of.ensures));
  fresh = c.in_ok-untried-in-Ok.ensures.untried.fresh;
  whole = c.in_ok-untried-in-Ok.ensures.untried.whole;
  marks = c.in_ok-untried-in-Ok.ensures.marks ∙ c.are_asked.ensures;
  refused = subst (λ t. refusal_of (plain_options c.args.options.now) t (Ok (map (patch_of t) c.args.patches.items)) ≡ None) c.deref.ensures.value c.in-Ok.ensures.refused;
}

pub returns-in_err-untried-in-Ok : goal.returns-in_err-untried-in-Ok
returns-in_err-untried-in-Ok c = record {
  set = if_ok_none _ _ c.from_residual.result c.from_residual.ensures.1;
  fresh = if_ok_none _ _ c.from_residual.result c.from_residual.ensures.1;
  whole = if_ok_none _ _ c.from_residual.result c.from_residual.ensures.1;
  marks = if_ok_none _ _ c.from_residual.result c.from_residual.ensures.1;
  refused = meets-memory _ c.from_residual.result c.from_residual.ensures.1;
}

pub give_targets-requires-clause-options : goal.give_targets-requires-clause-options
give_targets-requires-clause-options c = c.requires.options

pub give_targets-requires-clause-count : goal.give_targets-requires-clause-count
give_targets-requires-clause-count c = c.requires.whole.count
