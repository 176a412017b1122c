use Rattle.std.proofs.Common.{◌≡◌, ◌≤◌, ◌^◌, ℕ, ◌+◌, ◌++◌, length, reverse, sym, ap, subst, ◌∙◌, arith, ⊎_elim}
use Rattle.std.specs.Prelude.{pos, negsuc, ◌≤ℤ◌}
use Rattle.std.specs.List.{prefix_len}
use Rattle.line_store.proofs.StoreLemmas.{keeps-more}
use Rattle.outside.specs.SinkView.{sink_passes_none}
use Rattle.outside.proofs.Exits.{if_ok_none}
use Rattle.hunk_core.specs.declared.Verdict.TheVariants.{At, Untried, Ignored}
use Rattle.hunk_core.specs.Sides.{taken_count}
use Rattle.hunk_core.proofs.TurnedLemmas.{is_kept_line}
use Rattle.hunk_place.specs.Verdicts.{IsPlaced}
use Rattle.hunk_place.specs.Taken.{taken}
use Rattle.hunk_place.specs.Verdicts.{verdict_of, spot}
use Rattle.hunk_apply.specs.declared.ApplyFault.TheVariants.{Line}
use Rattle.hunk_apply.specs.Faults.{HasApplyCause}
use Rattle.hunk_apply.specs.Moved.{moved_state}
use Rattle.hunk_apply.specs.Passage.{BrokeOffIn, hunk_passage, post_count}
use Rattle.hunk_apply.specs.Session.{IsTried}
use Rattle.hunk_apply.specs.Splice.{body_edits, hunk_edits, spliced_from, AreFrom}
use Rattle.hunk_apply.specs.Written.{WhereTold, join_behind}
use Rattle.hunk_apply.proofs.BodyLemmas.{post-old}
use Rattle.hunk_apply.proofs.FaultLemmas.{on-err, if-err-still, apply-cause-more}
use Rattle.hunk_apply.proofs.MovedLemmas.{placed-consumed, placed-edits, placed-near, offset-is, placed-state, placed-wrote, nowhere-state, nowhere-wrote, still-below, still-above}
use Rattle.hunk_apply.proofs.WrittenLemmas.{part-none, part-same}
use Rattle.hunk_apply.proofs.step.apply_hunk.Goals as goal

pub returns-in_err-verdict : goal.returns-in_err-verdict
returns-in_err-verdict g c = record {
  part = (
      let view = g.O.Sink.view in
      let h = taken c.args.text.now c.args.side c.args.hunk.now in
      let state = c.args.state.now in
      on-err _ (WhereTold (g.S.LineStore.seen c.args.store.now) (λ lines. BrokeOffIn (view c.args.out.now) (view c.args.out.now) c.args.tail lines (hunk_passage lines c.args.fuzz c.args.loose (taken c.args.text.now c.args.side c.args.hunk.now) c.args.state.now)))
      (λ lines told later from. part-none (view c.args.out.now) (join_behind c.args.tail.is_open (spliced_from lines (hunk_edits (spot lines c.args.fuzz c.args.loose h state) h ++ later) (state.consumed + 1)))));
  cause = (
      let u = g.O.Sink.view c.args.out.now in
      if-err-still (λ e. HasApplyCause e (g.S.LineStore.seen c.args.store.now) (g.S.LineStore.seen c.place.new.store) u u)
      (Line c.in_err-verdict.field-0.0) c.from_residual.result c.from_residual.ensures.1 c.in_err-verdict.ensures.cause);
  verdict = if_ok_none _ _ c.from_residual.result c.from_residual.ensures.1;
  tried = if_ok_none _ _ c.from_residual.result c.from_residual.ensures.1;
  state = if_ok_none _ _ c.from_residual.result c.from_residual.ensures.1;
  within = if_ok_none _ _ c.from_residual.result c.from_residual.ensures.1;
  far_back = if_ok_none _ _ c.from_residual.result c.from_residual.ensures.1;
  far_on = if_ok_none _ _ c.from_residual.result c.from_residual.ensures.1;
  net_below = if_ok_none _ _ c.from_residual.result c.from_residual.ensures.1;
  net_above = if_ok_none _ _ c.from_residual.result c.from_residual.ensures.1;
  written = if_ok_none _ _ c.from_residual.result c.from_residual.ensures.1;
  keeps = c.in_err-verdict.ensures.keeps;
  sink = sink_passes_none (g.O.Sink.view c.args.out.now);
  rest = g.met.O.Sink.rest_none _;
}

pub returns-in_err-moved-in-At : goal.returns-in_err-moved-in-At
returns-in_err-moved-in-At g c = record {
  part = (
      let view = g.O.Sink.view in
      let h = taken c.args.text.now c.args.side c.args.hunk.now in
      let state = c.args.state.now in
      on-err _ (WhereTold (g.S.LineStore.seen c.args.store.now) (λ lines. BrokeOffIn (view c.args.out.now) (view c.apply_at.new.out) c.args.tail lines (hunk_passage lines c.args.fuzz c.args.loose (taken c.args.text.now c.args.side c.args.hunk.now) c.args.state.now)))
      (λ lines told later from.
      let place = spot lines c.args.fuzz c.args.loose h state in
      let at : At c.in-At.line c.in-At.fuzz c.in-At.offset ≡ verdict_of h place = sym c.in-At.is ∙ c.in_ok-verdict.ensures.value lines told in
      part-same (view c.args.out.now) (view c.apply_at.new.out) c.args.tail.is_open
      (spliced_from lines (body_edits c.in-At.line h.body ++ later) (state.consumed + 1)) (spliced_from lines (hunk_edits place h ++ later) (state.consumed + 1))
      (ap (λ es. spliced_from lines (es ++ later) (state.consumed + 1)) (placed-edits h place c.in-At.line c.in-At.fuzz c.in-At.offset at))
      (c.in_err-moved-in-At.ensures.part lines (c.in_ok-verdict.ensures.keeps.told ∙ told) later (subst (λ n. AreFrom (n + 1) later) (placed-consumed h state place c.in-At.line c.in-At.fuzz c.in-At.offset at) from))));
  keeps = keeps-more (g.S.LineStore.seen c.args.store.now) (g.S.LineStore.seen c.place.new.store) (g.S.LineStore.seen c.apply_at.new.store) c.in_ok-verdict.ensures.keeps c.in_err-moved-in-At.ensures.keeps;
  cause = (
      let a = g.S.LineStore.seen c.args.store.now in
      let b = g.S.LineStore.seen c.place.new.store in
      let d = g.S.LineStore.seen c.apply_at.new.store in
      let u = g.O.Sink.view c.args.out.now in
      let w = g.O.Sink.view c.apply_at.new.out in
      let fault = c.in_err-moved-in-At.field-0.0 in
      if-err-still (λ e. HasApplyCause e a d u w) fault c.from_residual-in_err-moved-in-At.result c.from_residual-in_err-moved-in-At.ensures.1
      (apply-cause-more fault a b d u u w c.in_ok-verdict.ensures.keeps (sink_passes_none u) c.in_err-moved-in-At.ensures.cause));
  verdict = if_ok_none _ _ c.from_residual-in_err-moved-in-At.result c.from_residual-in_err-moved-in-At.ensures.1;
  tried = if_ok_none _ _ c.from_residual-in_err-moved-in-At.result c.from_residual-in_err-moved-in-At.ensures.1;
  state = if_ok_none _ _ c.from_residual-in_err-moved-in-At.result c.from_residual-in_err-moved-in-At.ensures.1;
  within = if_ok_none _ _ c.from_residual-in_err-moved-in-At.result c.from_residual-in_err-moved-in-At.ensures.1;
  far_back = if_ok_none _ _ c.from_residual-in_err-moved-in-At.result c.from_residual-in_err-moved-in-At.ensures.1;
  far_on = if_ok_none _ _ c.from_residual-in_err-moved-in-At.result c.from_residual-in_err-moved-in-At.ensures.1;
  net_below = if_ok_none _ _ c.from_residual-in_err-moved-in-At.result c.from_residual-in_err-moved-in-At.ensures.1;
  net_above = if_ok_none _ _ c.from_residual-in_err-moved-in-At.result c.from_residual-in_err-moved-in-At.ensures.1;
  written = if_ok_none _ _ c.from_residual-in_err-moved-in-At.result c.from_residual-in_err-moved-in-At.ensures.1;
  sink = c.in_err-moved-in-At.ensures.sink;
  rest = c.in_err-moved-in-At.ensures.rest;
}

pub returns-in_ok-moved-in-At : goal.returns-in_ok-moved-in-At
returns-in_ok-moved-in-At g c = record {
  tried = (
      let items = c.args.hunk.now.body.items in
      let post : ℕ = prefix_len is_kept_line (reverse items) in
      let old : post ≤ taken_count c.args.side items = post-old c.args.side items in
      let placed = subst (IsPlaced (g.S.LineStore.seen c.args.store.now).count c.args.state.now.consumed (taken_count c.args.side items) post) c.in-At.is c.in_ok-verdict.ensures.placed in
      let room : c.in-At.line + taken_count c.args.side items ≤ (g.S.LineStore.seen c.args.store.now).count + 1 + post = placed.1 in
      omega arith);
  verdict = λ lines told. sym c.in-At.is ∙ c.in_ok-verdict.ensures.value lines told;
  state = λ lines told.
      let h = taken c.args.text.now c.args.side c.args.hunk.now in
      let state = c.args.state.now in
      let small = placed-near (g.S.LineStore.seen c.args.store.now).count c.args.state.now.consumed (taken_count c.args.side c.args.hunk.now.body.items) (post_count c.args.hunk.now) c.in-At.line c.in-At.fuzz c.in-At.offset c.in_ok-verdict.verdict c.in-At.is c.in_ok-verdict.ensures.placed in
      c.in_ok-moved-in-At.ensures.state
      ∙ (ap (moved_state h state c.in-At.line) (offset-is c.in-At.offset small.0 small.1)
      ∙ placed-state h state (spot lines c.args.fuzz c.args.loose h state) c.in-At.line c.in-At.fuzz c.in-At.offset (sym c.in-At.is ∙ c.in_ok-verdict.ensures.value lines told));
  within = subst (λ n. c.in_ok-moved-in-At.moved.state.consumed ≤ n) c.in_ok-verdict.ensures.keeps.count c.in_ok-moved-in-At.ensures.within;
  far_back = (
      let small = placed-near (g.S.LineStore.seen c.args.store.now).count c.args.state.now.consumed (taken_count c.args.side c.args.hunk.now.body.items) (post_count c.args.hunk.now) c.in-At.line c.in-At.fuzz c.in-At.offset c.in_ok-verdict.verdict c.in-At.is c.in_ok-verdict.ensures.placed in
      subst (λ o. negsuc (2 ^ 41) ≤ℤ o) (sym (c.in_ok-moved-in-At.ensures.offset ∙ offset-is c.in-At.offset small.0 small.1)) small.0);
  far_on = (
      let small = placed-near (g.S.LineStore.seen c.args.store.now).count c.args.state.now.consumed (taken_count c.args.side c.args.hunk.now.body.items) (post_count c.args.hunk.now) c.in-At.line c.in-At.fuzz c.in-At.offset c.in_ok-verdict.verdict c.in-At.is c.in_ok-verdict.ensures.placed in
      subst (λ o. o ≤ℤ pos (2 ^ 41)) (sym (c.in_ok-moved-in-At.ensures.offset ∙ offset-is c.in-At.offset small.0 small.1)) small.1);
  written = λ lines told later from.
      let view = g.O.Sink.view in
      let h = taken c.args.text.now c.args.side c.args.hunk.now in
      let state = c.args.state.now in
      let place = spot lines c.args.fuzz c.args.loose h state in
      placed-wrote (view c.args.out.now) (view c.apply_at.new.out) c.args.tail c.in_ok-moved-in-At.moved.tail lines later h state place c.in-At.line c.in-At.fuzz c.in-At.offset
      (sym c.in-At.is ∙ c.in_ok-verdict.ensures.value lines told) from (c.in_ok-moved-in-At.ensures.written lines (c.in_ok-verdict.ensures.keeps.told ∙ told) later);
  keeps = keeps-more (g.S.LineStore.seen c.args.store.now) (g.S.LineStore.seen c.place.new.store) (g.S.LineStore.seen c.apply_at.new.store) c.in_ok-verdict.ensures.keeps c.in_ok-moved-in-At.ensures.keeps;
  part = tt;
  cause = tt;
  net_below = c.in_ok-moved-in-At.ensures.net_below;
  net_above = c.in_ok-moved-in-At.ensures.net_above;
  sink = c.in_ok-moved-in-At.ensures.sink;
  rest = c.in_ok-moved-in-At.ensures.rest;
}

pub returns-in-Nowhere : goal.returns-in-Nowhere
returns-in-Nowhere g c = record {
  verdict = c.in_ok-verdict.ensures.value;
  tried = subst IsTried (sym c.in-Nowhere.is) tt;
  state = λ lines told.
      let h = taken c.args.text.now c.args.side c.args.hunk.now in
      nowhere-state h c.args.state.now (spot lines c.args.fuzz c.args.loose h c.args.state.now) (sym c.in-Nowhere.is ∙ c.in_ok-verdict.ensures.value lines told);
  within = c.requires.consumed;
  far_back = c.requires.far_back;
  far_on = c.requires.far_on;
  net_below = still-below c.args.state.now.net (length c.args.hunk.now.body.items);
  net_above = still-above c.args.state.now.net (length c.args.hunk.now.body.items);
  written = λ lines told later from.
      let h = taken c.args.text.now c.args.side c.args.hunk.now in
      nowhere-wrote (g.O.Sink.view c.args.out.now) c.args.tail lines later h c.args.state.now (spot lines c.args.fuzz c.args.loose h c.args.state.now) (sym c.in-Nowhere.is ∙ c.in_ok-verdict.ensures.value lines told);
  part = tt;
  cause = tt;
  keeps = c.in_ok-verdict.ensures.keeps;
  sink = sink_passes_none (g.O.Sink.view c.args.out.now);
  rest = g.met.O.Sink.rest_none _;
}

pub apply_at-requires-clause-lawful : goal.apply_at-requires-clause-lawful
apply_at-requires-clause-lawful g c = c.requires.lawful

pub apply_at-requires-clause-consumed : goal.apply_at-requires-clause-consumed
apply_at-requires-clause-consumed g c = subst (λ n. c.args.state.now.consumed ≤ n) (sym c.in_ok-verdict.ensures.keeps.count) c.requires.consumed

pub apply_at-requires-clause-behind : goal.apply_at-requires-clause-behind
apply_at-requires-clause-behind g c =
    (subst (IsPlaced (g.S.LineStore.seen c.args.store.now).count c.args.state.now.consumed (taken_count c.args.side c.args.hunk.now.body.items) (post_count c.args.hunk.now)) c.in-At.is c.in_ok-verdict.ensures.placed).0

pub apply_at-requires-clause-room : goal.apply_at-requires-clause-room
apply_at-requires-clause-room g c =
    subst (λ n. c.in-At.line + taken_count c.args.side c.args.hunk.now.body.items ≤ n + 1 + post_count c.args.hunk.now) (sym c.in_ok-verdict.ensures.keeps.count)
    (subst (IsPlaced (g.S.LineStore.seen c.args.store.now).count c.args.state.now.consumed (taken_count c.args.side c.args.hunk.now.body.items) (post_count c.args.hunk.now)) c.in-At.is c.in_ok-verdict.ensures.placed).1

pub apply_at-requires-clause-few_dropped : goal.apply_at-requires-clause-few_dropped
apply_at-requires-clause-few_dropped g c = c.requires.few_dropped

pub apply_at-requires-clause-few_added : goal.apply_at-requires-clause-few_added
apply_at-requires-clause-few_added g c = c.requires.few_added

pub place-requires-clause-lawful : goal.place-requires-clause-lawful
place-requires-clause-lawful g c = c.requires.lawful

pub place-requires-clause-consumed : goal.place-requires-clause-consumed
place-requires-clause-consumed g c = c.requires.consumed

pub place-requires-clause-far_back : goal.place-requires-clause-far_back
place-requires-clause-far_back g c = c.requires.far_back

pub place-requires-clause-far_on : goal.place-requires-clause-far_on
place-requires-clause-far_on g c = c.requires.far_on

pub unreachable-requires : goal.unreachable-requires
unreachable-requires g c =
    let P = IsPlaced (g.S.LineStore.seen c.args.store.now).count c.args.state.now.consumed (taken_count c.args.side c.args.hunk.now.body.items) (prefix_len is_kept_line (reverse c.args.hunk.now.body.items)) in
    let placed = c.in_ok-verdict.ensures.placed in
    ⊎_elim (λ (e : c.in_ok-verdict.verdict ≡ Untried). subst P e placed) (λ (e : c.in_ok-verdict.verdict ≡ Ignored). subst P e placed) c.in-Untried.is
