use Rattle.std.proofs.Common.{◌≡◌, ℕ, List, [], ◌∷◌, ◌++◌, codes, ap, ◌∙◌}
use Rattle.series_stack.specs.Outcomes.{tally}
use Rattle.outside.proofs.Writing.{stop_all, then_all, writes_is}
use Rattle.stack_state.proofs.saying.say_rejected.Goals as goal

pub returns-in_err-put_all : goal.returns-in_err-put_all
returns-in_err-put_all g c = record {
  writes = stop_all c.in_err-put_all.field-0.0 c.from_residual.result (codes "Patch ") (c.args.name.now ++ (codes " does not apply" ++ 10 ∷ tally c.args.applied c.args.all)) c.from_residual.ensures.0 c.in_err-put_all.ensures.call c.in_err-put_all.ensures.failed;
  rest = c.in_err-put_all.ensures.rest;
}

pub returns-in_err-put_all-2 : goal.returns-in_err-put_all-2
returns-in_err-put_all-2 g c = record {
  writes = (
      let more : List ℕ = codes " does not apply" ++ 10 ∷ tally c.args.applied c.args.all in
      let named : c.as_bytes.result.now ≡ c.args.name.now = c.as_bytes.ensures.value ∙ c.text.ensures.text in
      writes_is c.from_residual-in_err-put_all-2.result (codes "Patch " ++ (c.args.name.now ++ more))
      (then_all c.in_ok-put_all.field-0 c.from_residual-in_err-put_all-2.result (codes "Patch ") (c.as_bytes.result.now ++ ((codes " does not apply" ++ 10 ∷ []) ++ tally c.args.applied c.args.all)) c.in_ok-put_all.ensures.call c.in_ok-put_all.ensures.received
      (stop_all c.in_err-put_all-2.field-0.0 c.from_residual-in_err-put_all-2.result c.as_bytes.result.now ((codes " does not apply" ++ 10 ∷ []) ++ tally c.args.applied c.args.all) c.from_residual-in_err-put_all-2.ensures.0 c.in_err-put_all-2.ensures.call c.in_err-put_all-2.ensures.failed))
      (ap (λ (l : List ℕ). codes "Patch " ++ (l ++ more)) named));
  rest = g.met.O.Sink.rest_both _ _ _ c.in_ok-put_all.ensures.rest c.in_err-put_all-2.ensures.rest;
}

pub returns-in_err-put_all-3 : goal.returns-in_err-put_all-3
returns-in_err-put_all-3 g c = record {
  writes = (
      let more : List ℕ = codes " does not apply" ++ 10 ∷ tally c.args.applied c.args.all in
      let named : c.as_bytes.result.now ≡ c.args.name.now = c.as_bytes.ensures.value ∙ c.text.ensures.text in
      writes_is c.from_residual-in_err-put_all-3.result (codes "Patch " ++ (c.args.name.now ++ more))
      (then_all c.in_ok-put_all.field-0 c.from_residual-in_err-put_all-3.result (codes "Patch ") (c.as_bytes.result.now ++ ((codes " does not apply" ++ 10 ∷ []) ++ tally c.args.applied c.args.all)) c.in_ok-put_all.ensures.call c.in_ok-put_all.ensures.received
      (then_all c.in_ok-put_all-2.field-0 c.from_residual-in_err-put_all-3.result c.as_bytes.result.now ((codes " does not apply" ++ 10 ∷ []) ++ tally c.args.applied c.args.all) c.in_ok-put_all-2.ensures.call c.in_ok-put_all-2.ensures.received
      (stop_all c.in_err-put_all-3.field-0.0 c.from_residual-in_err-put_all-3.result (codes " does not apply" ++ 10 ∷ []) (tally c.args.applied c.args.all) c.from_residual-in_err-put_all-3.ensures.0 c.in_err-put_all-3.ensures.call c.in_err-put_all-3.ensures.failed)))
      (ap (λ (l : List ℕ). codes "Patch " ++ (l ++ more)) named));
  rest = g.met.O.Sink.rest_both _ _ _ c.in_ok-put_all.ensures.rest (g.met.O.Sink.rest_both _ _ _ c.in_ok-put_all-2.ensures.rest c.in_err-put_all-3.ensures.rest);
}

pub returns : goal.returns
returns g c = record {
  writes = (
      let more : List ℕ = codes " does not apply" ++ 10 ∷ tally c.args.applied c.args.all in
      let named : c.as_bytes.result.now ≡ c.args.name.now = c.as_bytes.ensures.value ∙ c.text.ensures.text in
      writes_is c.say_tally.result (codes "Patch " ++ (c.args.name.now ++ more))
      (then_all c.in_ok-put_all.field-0 c.say_tally.result (codes "Patch ") (c.as_bytes.result.now ++ ((codes " does not apply" ++ 10 ∷ []) ++ tally c.args.applied c.args.all)) c.in_ok-put_all.ensures.call c.in_ok-put_all.ensures.received
      (then_all c.in_ok-put_all-2.field-0 c.say_tally.result c.as_bytes.result.now ((codes " does not apply" ++ 10 ∷ []) ++ tally c.args.applied c.args.all) c.in_ok-put_all-2.ensures.call c.in_ok-put_all-2.ensures.received
      (then_all c.in_ok-put_all-3.field-0 c.say_tally.result (codes " does not apply" ++ 10 ∷ []) (tally c.args.applied c.args.all) c.in_ok-put_all-3.ensures.call c.in_ok-put_all-3.ensures.received
      c.say_tally.ensures.writes)))
      (ap (λ (l : List ℕ). codes "Patch " ++ (l ++ more)) named));
  rest = g.met.O.Sink.rest_both _ _ _ c.in_ok-put_all.ensures.rest (g.met.O.Sink.rest_both _ _ _ c.in_ok-put_all-2.ensures.rest (g.met.O.Sink.rest_both _ _ _ c.in_ok-put_all-3.ensures.rest c.say_tally.ensures.rest));
}
