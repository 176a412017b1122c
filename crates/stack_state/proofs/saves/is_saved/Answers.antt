use Rattle.std.proofs.Common.{List, ap, is_some, refl, ℕ, ◌∙◌}
use Rattle.std.specs.FinMap.{get}
use Rattle.stack_state.proofs.Held.{some_sized}
use Rattle.stack_state.proofs.saves.is_saved.Goals as goal

pub returns : goal.returns
returns g c = record {
  untouched = c.size.ensures.untouched;
  there = tt;
  cause = c.in-Err.ensures.call.cause refl;
}

pub returns-in-Ok : goal.returns-in-Ok
returns-in-Ok g c = record {
  untouched = c.size.ensures.untouched;
  there = λ f told. c.is_some.ensures ∙ ap is_some (c.in-Ok.ensures.size f told) ∙ some_sized (get f c.in_ok-name.name) ∙ ap (λ (n : List ℕ). is_some (get f n)) c.in_ok-name.ensures;
  cause = tt;
}
