use Rattle.std.proofs.Common.{◌≡◌, ◌+◌, ◌∷◌, ◌++◌, [], List, take, All, sym, ap, subst, ◌∙◌, arith, map}
use Rattle.std.proofs.lemmas.List.{take_more, take_all}
use Rattle.std.proofs.lemmas.List.Elements.{All-push}
use Rattle.patch_options.specs.PlainJob.{plain_options}
use Rattle.read_file_patch.specs.declared.derived.Target.{Target}
use Rattle.read_file_patch.specs.Numbered.{with_name, joined_by}
use Rattle.read_file_patch.specs.Targets.{HasTemps}
use Rattle.patch_set.specs.Named.{target_in}
use Rattle.patch_set.proofs.Joined.{AreTargets, joined-nil, known-more, targets-more}
use Rattle.outside.proofs.Exits.{if_ok_none, on_ok_none}
use Rattle.patch_set.proofs.names.targets_for.Goals as goal

none-yet : (ts : List Target) → ts ≡ [] → All HasTemps ts
none-yet ts e = subst (λ l. All HasTemps l) (sym e) (λ k d h. absurd (omega arith))

pub loop-name-init : goal.loop-name-init
loop-name-init c = record {
  known = sym (joined-nil c.args.numbers.now);
  targets = record { are = λ others. c.in_ok-targets.ensures.items };
  temps = none-yet _ c.in_ok-targets.ensures.items;
}

pub loop-name-preserved : goal.loop-name-preserved
loop-name-preserved c =
    let i = c.loop-name.name-index in
    let name = c.name-item.result in
    let t = c.in_ok-target.field-0 in
    let o = plain_options c.args.options.now in
    let more : take (i + 1) c.args.names.now ≡ take i c.args.names.now ++ name ∷ [] =
    take_more c.args.names.now i name (omega arith) ∙ ap (λ n. take i c.args.names.now ++ n ∷ []) (sym c.name-item.is) in
    let pushed : c.push.new.self.items ≡ c.loop-name.targets.items ++ t ∷ [] = c.in_ok-push.ensures.items in
    let one = c.in_ok-target.ensures.known in
    let is : t ≡ target_in o (with_name c.loop-name.numbers name) name = c.in_ok-target.ensures.target ∙ ap (λ k. target_in o k name) one in
    record {
      known = known-more c.args.numbers.now c.args.names.now i name c.loop-name.numbers c.target.new.numbers c.loop-name.invariant.known one more;
      targets = subst (λ l. AreTargets o c.target.new.numbers l c.push.new.self.items) (sym more)
          (subst (λ ts. AreTargets o c.target.new.numbers (take i c.args.names.now ++ name ∷ []) ts) (sym pushed)
          (subst (λ k. AreTargets o k (take i c.args.names.now ++ name ∷ []) (c.loop-name.targets.items ++ t ∷ [])) (sym one)
          (targets-more o c.loop-name.numbers (take i c.args.names.now) c.loop-name.targets.items name t c.loop-name.invariant.targets is)));
      temps = subst (λ l. All HasTemps l) (sym pushed) (All-push HasTemps c.loop-name.targets.items t c.loop-name.invariant.temps c.in_ok-target.ensures.temps);
    }

pub returns : goal.returns
returns c = record {
  known = c.loop-name.invariant.known ∙ ap (joined_by c.args.numbers.now) (take_all c.loop-name.name-index c.args.names.now c.loop-name-test.false);
  targets = (
      λ others.
      c.loop-name.invariant.targets.are others
      ∙ ap (map (target_in (plain_options c.args.options.now) (joined_by c.loop-name.numbers others))) (take_all c.loop-name.name-index c.args.names.now c.loop-name-test.false));
  temps = c.loop-name.invariant.temps;
}

pub returns-in_err-push : goal.returns-in_err-push
returns-in_err-push c = record {
  known = on_ok_none _ _ c.from_residual-in_err-push.result c.from_residual-in_err-push.ensures.1;
  targets = if_ok_none _ _ c.from_residual-in_err-push.result c.from_residual-in_err-push.ensures.1;
  temps = if_ok_none _ _ c.from_residual-in_err-push.result c.from_residual-in_err-push.ensures.1;
}

pub returns-in_err-target : goal.returns-in_err-target
returns-in_err-target c = record {
  known = on_ok_none _ _ c.from_residual-in_err-target.result c.from_residual-in_err-target.ensures.1;
  targets = if_ok_none _ _ c.from_residual-in_err-target.result c.from_residual-in_err-target.ensures.1;
  temps = if_ok_none _ _ c.from_residual-in_err-target.result c.from_residual-in_err-target.ensures.1;
}

pub bounds-names-name-index : goal.bounds-names-name-index
bounds-names-name-index c = c.loop-name-test.true
