use Rattle.std.proofs.Common.{◌∙◌, true, is_some, refl, ap}
use Rattle.std.proofs.lemmas.Result.{IfOk-weaker}
use Rattle.outside.proofs.Views.{told_on}
use Rattle.apply_task.specs.TargetEffects.{target_effects}
use Rattle.apply_task.proofs.Making.{makes_both, makes_stops, goes_both, goes_fault}
use Rattle.apply_task.proofs.Placing.{target_same}
use Rattle.outside.proofs.Exits.{if_ok_none, on_ok_none}
use Rattle.apply_task.proofs.placed.erase.Goals as goal

pub returns-in_err-forget : goal.returns-in_err-forget
returns-in_err-forget g c = record {
  makes = λ output. makes_stops c.in_err-forget.field-0.0 c.from_residual.result (λ f. target_effects true f c.args.target.now output) _ c.from_residual.ensures.1 c.in_err-forget.ensures.makes (λ f told. refl);
  goes = goes_fault c.in_err-forget.field-0.0 c.from_residual.result c.from_residual.ensures.1 c.in_err-forget.ensures.goes;
  gone = on_ok_none _ _ c.from_residual.result c.from_residual.ensures.1;
  wrote = if_ok_none _ _ c.from_residual.result c.from_residual.ensures.1;
}

pub returns : goal.returns
returns g c = record {
  makes = λ output.
      makes_both tt c.remove_if_there.result _ c.in_ok-forget.ensures.goes.passes c.remove_if_there.ensures.goes.passes c.in_ok-forget.ensures.makes (c.remove_if_there.ensures.makes output)
      (λ f h told now made. target_same true c.args.target.now output f h (c.in_ok-forget.ensures.name f h told now));
  wrote = (
      IfOk-weaker c.remove_if_there.result _ _
      (λ wrote is f told.
      let mid = told_on f c.in_ok-forget.ensures.goes.passes told in
      is mid.0 mid.1 ∙ ap (λ o. is_some o) (c.in_ok-forget.ensures.name f mid.0 told mid.1))
      c.remove_if_there.ensures.wrote);
  goes = goes_both c.in_ok-forget.field-0 c.remove_if_there.result c.in_ok-forget.ensures.goes c.remove_if_there.ensures.goes;
  gone = c.remove_if_there.ensures.gone;
}

pub forget-requires-clause-named : goal.forget-requires-clause-named
forget-requires-clause-named g c = c.requires.named

pub forget-requires-clause-temp : goal.forget-requires-clause-temp
forget-requires-clause-temp g c = c.requires.temp

pub forget-requires-clause-quiet : goal.forget-requires-clause-quiet
forget-requires-clause-quiet g c = c.requires.quiet

pub forget-requires-clause-there : goal.forget-requires-clause-there
forget-requires-clause-there g c = c.requires.there

pub remove_if_there-requires-clause-named : goal.remove_if_there-requires-clause-named
remove_if_there-requires-clause-named g c = c.requires.named

pub remove_if_there-requires-clause-quiet : goal.remove_if_there-requires-clause-quiet
remove_if_there-requires-clause-quiet g c = c.in_ok-forget.ensures.goes.quiet

pub remove_if_there-requires-clause-gone : goal.remove_if_there-requires-clause-gone
remove_if_there-requires-clause-gone g c = c.in_ok-forget.ensures.gone
