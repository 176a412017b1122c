use Rattle.std.proofs.Common.{◌≡◌, List, ◌++◌, Bool, Option, Result, Err, refl, sym, ap, ◌∙◌}
use Rattle.std.proofs.lemmas.Result.{err_from_is_err_and}
use Rattle.outside.specs.SinkView.{SinkView, Writes, sink_passes_both}
use Rattle.outside.proofs.Writing.{writes_is, writes_stop, writes_then}
use Rattle.hunk_core.specs.declared.Side.{Side}
use Rattle.hunk_core.specs.declared.Verdict.{Verdict}
use Rattle.apply_task.specs.Contexts.{PlainContext}
use Rattle.apply_task.specs.Outputs.{Tried}
use Rattle.apply_outcome.specs.HunksSaid.{change_said}
use Rattle.apply_outcome.specs.Outcome.{kept_said, failures_said, tried_said}
use Rattle.apply_outcome.specs.ContextView.{plain_context}
use Rattle.apply_outcome.proofs.Telling.{call_then, call_fault}
use Rattle.apply_outcome.proofs.saying.tell.Goals as goal

-- what is said of each hunk, of an outcome
changed : {R E : Type 0} {a b : SinkView} (r : Result R E) (t : PlainContext) (x : Tried) (side : Side) (vs : List Verdict) (end : Option Bool) → x.side ≡ side → x.verdicts ≡ vs → x.end ≡ end
    → Writes a b r (change_said t.options end side t.item.patch.change vs) → Writes a b r (change_said t.options x.end x.side t.item.patch.change x.verdicts)
changed r t x side vs end from same ends w =
    writes_is r (change_said t.options x.end x.side t.item.patch.change x.verdicts) w
    (ap (λ (s : Side). change_said t.options end s t.item.patch.change vs) (sym from) ∙ ap (λ (l : List Verdict). change_said t.options end x.side t.item.patch.change l) (sym same)
    ∙ ap (λ (o : Option Bool). change_said t.options o x.side t.item.patch.change x.verdicts) (sym ends))

pub returns : goal.returns
unfolding tried_said
returns g c = record {
  writes = λ x side vs is end.
      let t = plain_context c.args.turn.now in
      writes_then c.in_ok-say_change.field-0 c.say_rejected.result (changed _ t x c.args.side c.args.verdicts.now c.args.end side vs end c.in_ok-say_change.ensures.writes)
      (writes_then c.in_ok-say_kept.field-0 c.say_rejected.result (c.in_ok-say_kept.ensures.writes x side is) (c.say_rejected.ensures.writes x is));
  rest = g.met.O.Sink.rest_both _ _ _ (g.met.O.Sink.rest_both _ _ _ c.in_ok-say_change.ensures.rest c.in_ok-say_kept.ensures.rest) c.say_rejected.ensures.rest;
  call = call_then (sink_passes_both c.in_ok-say_change.ensures.writes.call.passes c.in_ok-say_kept.ensures.call.passes) c.say_rejected.result c.say_rejected.ensures.call;
}

pub returns-in_err-say_kept : goal.returns-in_err-say_kept
unfolding tried_said
returns-in_err-say_kept g c = record {
  writes = λ x side vs is end.
      let t = plain_context c.args.turn.now in
      let p = err_from_is_err_and c.from_residual-in_err-say_kept.result c.from_residual-in_err-say_kept.ensures.1 in
      rw p.1 (writes_then c.in_ok-say_change.field-0 (Err p.0) (changed _ t x c.args.side c.args.verdicts.now c.args.end side vs end c.in_ok-say_change.ensures.writes)
      (writes_stop c.in_err-say_kept.field-0.0 (Err p.0) (failures_said t c.args.target.now x) refl (c.in_err-say_kept.ensures.writes x side is)));
  rest = g.met.O.Sink.rest_both _ _ _ c.in_ok-say_change.ensures.rest c.in_err-say_kept.ensures.rest;
  call = call_fault c.in_err-say_kept.field-0.0 c.from_residual-in_err-say_kept.result (call_then c.in_ok-say_change.ensures.writes.call.passes (Err c.in_err-say_kept.field-0.0) c.in_err-say_kept.ensures.call);
}

pub returns-in_err-say_change : goal.returns-in_err-say_change
unfolding tried_said
returns-in_err-say_change g c = record {
  writes = λ x side vs is end.
      let t = plain_context c.args.turn.now in
      let p = err_from_is_err_and c.from_residual.result c.from_residual.ensures.1 in
      rw p.1 (writes_stop c.in_err-say_change.field-0.0 (Err p.0) (kept_said t c.args.target.now x ++ failures_said t c.args.target.now x) refl (changed _ t x c.args.side c.args.verdicts.now c.args.end side vs end c.in_err-say_change.ensures.writes));
  rest = c.in_err-say_change.ensures.rest;
  call = call_fault c.in_err-say_change.field-0.0 c.from_residual.result c.in_err-say_change.ensures.writes.call;
}

pub say_rejected-requires-clause-turn : goal.say_rejected-requires-clause-turn
say_rejected-requires-clause-turn g c = c.requires.turn

pub say_rejected-requires-clause-named : goal.say_rejected-requires-clause-named
say_rejected-requires-clause-named g c = c.requires.named

pub say_kept-requires-clause-turn : goal.say_kept-requires-clause-turn
say_kept-requires-clause-turn g c = c.requires.turn

pub say_kept-requires-clause-named : goal.say_kept-requires-clause-named
say_kept-requires-clause-named g c = c.requires.named

pub say_change-requires-clause-turn : goal.say_change-requires-clause-turn
say_change-requires-clause-turn g c = c.requires.turn

pub say_change-requires-clause-rows : goal.say_change-requires-clause-rows
say_change-requires-clause-rows g c = c.requires.rows

pub say_change-requires-clause-tried : goal.say_change-requires-clause-tried
say_change-requires-clause-tried g c = c.requires.tried
