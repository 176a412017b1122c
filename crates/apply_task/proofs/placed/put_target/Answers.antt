use Rattle.std.proofs.Common.{Bool, ap, sym, not, ◌||◌, is_some, ◌∙◌}
use Rattle.apply_task.specs.TargetEffects.{target_effects}
use Rattle.apply_task.proofs.Making.{makes_is}
use Rattle.std.proofs.lemmas.Result.{IfOk-weaker}
use Rattle.std.specs.FinMap.{get}
use Rattle.apply_task.proofs.placed.put_target.Goals as goal

pub erase-requires-clause-named : goal.erase-requires-clause-named
erase-requires-clause-named g c = c.requires.named

pub erase-requires-clause-temp : goal.erase-requires-clause-temp
erase-requires-clause-temp g c = c.requires.temp

pub erase-requires-clause-quiet : goal.erase-requires-clause-quiet
erase-requires-clause-quiet g c = c.requires.quiet

pub erase-requires-clause-there : goal.erase-requires-clause-there
erase-requires-clause-there g c = c.requires.there

pub swap_in-requires-clause-named : goal.swap_in-requires-clause-named
swap_in-requires-clause-named g c = c.requires.named

pub swap_in-requires-clause-temp : goal.swap_in-requires-clause-temp
swap_in-requires-clause-temp g c = c.requires.temp

pub swap_in-requires-clause-quiet : goal.swap_in-requires-clause-quiet
swap_in-requires-clause-quiet g c = c.requires.quiet

pub swap_in-requires-clause-there : goal.swap_in-requires-clause-there
swap_in-requires-clause-there g c = c.requires.there

pub returns-then-removal : goal.returns-then-removal
returns-then-removal g c = record {
  makes = λ output holds. makes_is c.erase.result _ (c.erase.ensures.makes output) (λ f told. ap (λ (b : Bool). target_effects b f c.args.target.now output) c.if-removal.true);
  goes = c.erase.ensures.goes;
  gone = c.erase.ensures.gone;
  wrote = IfOk-weaker c.erase.result _ _ (λ wrote is f told. is f told ∙ ap (λ (b : Bool). not b || is_some (get f c.args.target.now.name)) (sym c.if-removal.true)) c.erase.ensures.wrote;
}

pub returns-else-removal : goal.returns-else-removal
returns-else-removal g c = record {
  makes = λ output holds. makes_is c.swap_in.result _ (c.swap_in.ensures.makes output holds) (λ f told. ap (λ (b : Bool). target_effects b f c.args.target.now output) c.if-removal.false);
  goes = c.swap_in.ensures.goes;
  gone = c.swap_in.ensures.gone;
  wrote = IfOk-weaker c.swap_in.result _ _ (λ wrote is f told. is ∙ ap (λ (b : Bool). not b || is_some (get f c.args.target.now.name)) (sym c.if-removal.false)) c.swap_in.ensures.wrote;
}
