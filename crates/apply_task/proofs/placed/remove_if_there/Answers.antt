use Rattle.std.proofs.Common.{false, sym, ◌∙◌, Ok, true}
use Rattle.std.specs.FinMap.{get}
use Rattle.apply_task.proofs.Making.{makes_both, makes_works, untouched_works, goes_both, makes_is, works_fails}
use Rattle.apply_task.proofs.Placing.{sized_there, removes, sized_none, stays}
use Rattle.std.proofs.lemmas.Result.{IfOk-weaker}
use Rattle.apply_task.specs.declared.fault.RunFault.TheVariants.{Tree}
use Rattle.apply_task.specs.TargetEffects.{target_effects}
use Rattle.apply_task.proofs.placed.remove_if_there.Goals as goal

pub returns-in-Ok-Some : goal.returns-in-Ok-Some
returns-in-Ok-Some g c = record {
  makes = λ output.
      let target = c.args.target.now in
      let works = untouched_works target.temp c.size.ensures.untouched c.requires.quiet in
      makes_both false c.remove.result _ works.passes c.remove.ensures.goes.passes (makes_works target.temp c.requires.named.temps.own works false) c.remove.ensures.makes
      (λ f h told now made. removes target output f (sized_there (get f target.name) c.in-Ok-Some.field-0-0 (sym c.in-Ok-Some.field-0-is ∙ c.in-Ok-Some.ensures.size f told)));
  goes = goes_both false c.remove.result (record { passes = c.size.ensures.untouched.passes; cause = tt; quiet = (untouched_works c.args.target.now.temp c.size.ensures.untouched c.requires.quiet).quiet }) c.remove.ensures.goes;
  gone = c.remove.ensures.gone;
  wrote = IfOk-weaker c.remove.result _ _ (λ wrote is f told. is ∙ sym (sized_there (get f c.args.target.now.name) c.in-Ok-Some.field-0-0 (sym c.in-Ok-Some.field-0-is ∙ c.in-Ok-Some.ensures.size f told))) c.remove.ensures.wrote;
}

pub remove-requires-clause-named : goal.remove-requires-clause-named
remove-requires-clause-named g c = c.requires.named

pub remove-requires-clause-quiet : goal.remove-requires-clause-quiet
remove-requires-clause-quiet g c = (untouched_works c.args.target.now.temp c.size.ensures.untouched c.requires.quiet).quiet

pub returns-in-Ok-None : goal.returns-in-Ok-None
returns-in-Ok-None g c = record {
  goes = record { passes = c.size.ensures.untouched.passes; cause = tt; quiet = (untouched_works c.args.target.now.temp c.size.ensures.untouched c.requires.quiet).quiet };
  makes = λ output.
      let target = c.args.target.now in
      makes_is (Ok false) _ (makes_works target.temp c.requires.named.temps.own (untouched_works target.temp c.size.ensures.untouched c.requires.quiet) false) (λ f told. stays target output f (sized_none (get f c.args.target.now.name) (sym c.in-Ok-None.field-0-is ∙ c.in-Ok-None.ensures.size f told)));
  gone = λ f now. c.requires.gone f (sym c.size.ensures.untouched.told ∙ now);
  wrote = λ f told. sym (sized_none (get f c.args.target.now.name) (sym c.in-Ok-None.field-0-is ∙ c.in-Ok-None.ensures.size f told));
}

pub returns-in-Err-clause-makes : goal.returns-in-Err-clause-makes
returns-in-Err-clause-makes g c output =
    let target = c.args.target.now in
    works_fails target.temp c.requires.named.temps.own (untouched_works target.temp c.size.ensures.untouched c.requires.quiet) Tree (λ f. target_effects true f target output)

pub remove-requires-clause-there : goal.remove-requires-clause-there
remove-requires-clause-there g c f now = sized_there (get f c.args.target.now.name) c.in-Ok-Some.field-0-0 (sym c.in-Ok-Some.field-0-is ∙ c.in-Ok-Some.ensures.size f (sym c.size.ensures.untouched.told ∙ now))

pub remove-requires-clause-gone : goal.remove-requires-clause-gone
remove-requires-clause-gone g c f now = c.requires.gone f (sym c.size.ensures.untouched.told ∙ now)
