use Rattle.std.proofs.Common.{◌≡◌, ℕ, ◌+◌, ◌≤◌, ◌<◌, List, [], ◌++◌, Some, length, take, drop, true, false, refl, sym, ap, subst, ◌∙◌, arith}
use Rattle.std.specs.List.{All}
use Rattle.std.proofs.lemmas.Int.{ints}
use Rattle.std.proofs.lemmas.List.{take_all}
use Rattle.std.proofs.lemmas.List.Sums.{sum_by_more, sum_by-take-le}
use Rattle.line_store.proofs.StoreLemmas.{keeps-same, keeps-more}
use Rattle.outside.specs.SinkView.{sink_passes_none, sink_passes_both, Receives, ReceivesPart}
use Rattle.outside.proofs.Exits.{if_ok_none, on_ok_none}
use Rattle.hunk_core.specs.declared.Hunk.{Hunk}
use Rattle.hunk_core.specs.Turned.{IsLawful}
use Rattle.hunk_place.specs.Taken.{taken}
use Rattle.hunk_place.specs.Verdicts.{spots, spot, after_hunk, at_start}
use Rattle.hunk_apply.specs.declared.put.Tail.{Tail}
use Rattle.hunk_apply.specs.Applied.{taken_all, applied}
use Rattle.hunk_apply.specs.Session.{IsTried, FillsFirst, body_lines}
use Rattle.hunk_apply.specs.Splice.{Edit, all_edits, hunk_edits, spliced_from}
use Rattle.hunk_apply.specs.Written.{Wrote, is_nothing}
use Rattle.hunk_apply.proofs.Steps.{fits-count, fits-next, fits-offset}
use Rattle.hunk_apply.proofs.CopyLemmas.{copied, copied-part}
use Rattle.hunk_apply.proofs.FaultLemmas.{on-err, if-err-still, apply-cause-more}
use Rattle.hunk_apply.proofs.FoldLemmas.{verdicts-more, edits-more, verdicts-end, edits-end, edits-behind, applied-is}
use Rattle.hunk_apply.proofs.MovedLemmas.{net-over, net-under, few-over, few-under}
use Rattle.hunk_apply.proofs.RowLemmas.{tried-more, others-more}
use Rattle.hunk_apply.proofs.SpliceLemmas.{nothing-left}
use Rattle.hunk_apply.proofs.WrittenLemmas.{wrote-none, wrote-both, wrote-same, wrote-whole, wrote-nothing, part-after, part-same, part-whole}
use Rattle.hunk_apply.proofs.hunks.apply_each.Given as given
use Rattle.hunk_apply.specs.Faults.{HasApplyCause}
use Rattle.hunk_apply.proofs.hunks.apply_each.Goals as goal

abbrev first : Tail
first = record { is_open = false; is_empty = true }

pub loop-j-init : goal.loop-j-init
loop-j-init g c = record {
  keeps = keeps-same _;
  sink = sink_passes_none _;
  rest = g.met.O.Sink.rest_none _;
  within = omega arith;
  far_back = omega (arith, ints);
  far_on = omega (arith, ints);
  net_above = omega (arith, ints);
  net_below = omega (arith, ints);
  tried = λ k d lt. absurd (omega arith);
  others = refl;
  placed = λ lines told. refl;
  written = λ lines told. wrote-none (g.O.Sink.view c.args.out.now) first (spliced_from lines (all_edits (spots lines c.args.fuzz c.args.loose at_start (taken_all c.args.text.now c.args.side c.args.hunks.now)) (taken_all c.args.text.now c.args.side c.args.hunks.now)) 1);
}

pub returns-in_err-step : goal.returns-in_err-step
returns-in_err-step g c = record {
  part = (
      let view = g.O.Sink.view in
      let text = c.args.text.now in
      let side = c.args.side in
      let hunks = c.args.hunks.now in
      let fuzz = c.args.fuzz in
      let loose = c.args.loose in
      let state = c.loop-j.state in
      let j = c.loop-j.j in
      let hunk = c.index-hunks-j.result in
      on-err _ ((lines : List (List ℕ)) → (g.S.LineStore.seen c.args.store.now).told ≡ Some lines → ReceivesPart (view c.args.out.now) (view c.apply_hunk.new.out) (applied lines fuzz loose (taken_all text side hunks)))
      (λ lines told.
      let h = taken text side hunk in
      let place = spot lines fuzz loose h state in
      let next = after_hunk h state place in
      let later : List Edit = all_edits (spots lines fuzz loose next (taken_all text side (drop (j + 1) hunks))) (taken_all text side (drop (j + 1) hunks)) in
      let all : List (List ℕ) = spliced_from lines (all_edits (spots lines fuzz loose at_start (taken_all text side hunks)) (taken_all text side hunks)) 1 in
      let left : List (List ℕ) = spliced_from lines (all_edits (spots lines fuzz loose state (taken_all text side (drop j hunks))) (taken_all text side (drop j hunks))) (state.consumed + 1) in
      let there : spliced_from lines (hunk_edits place h ++ later) (state.consumed + 1) ≡ left = ap (λ es. spliced_from lines es (state.consumed + 1)) (sym (edits-more lines fuzz loose text side hunks j hunk state c.loop-j-test.true c.index-hunks-j.is)) in
      subst (ReceivesPart (view c.args.out.now) (view c.apply_hunk.new.out)) (applied-is lines fuzz loose (taken_all text side hunks))
      (part-whole (view c.args.out.now) (view c.apply_hunk.new.out) false all refl
      (part-after (view c.args.out.now) (view c.loop-j.out) (view c.apply_hunk.new.out) first c.loop-j.tail all left (c.loop-j.invariant.written lines told)
      (part-same (view c.loop-j.out) (view c.apply_hunk.new.out) c.loop-j.tail.is_open (spliced_from lines (hunk_edits place h ++ later) (state.consumed + 1)) left there
      (c.in_err-step.ensures.part lines (c.loop-j.invariant.keeps.told ∙ told) later (edits-behind lines fuzz loose text side (drop (j + 1) hunks) next)))))));
  applied = if_ok_none _ _ c.from_residual.result c.from_residual.ensures.1;
  failed = if_ok_none _ _ c.from_residual.result c.from_residual.ensures.1;
  inexact = if_ok_none _ _ c.from_residual.result c.from_residual.ensures.1;
  output_empty = if_ok_none _ _ c.from_residual.result c.from_residual.ensures.1;
  placed = on_ok_none _ _ c.from_residual.result c.from_residual.ensures.1;
  tried = on_ok_none _ _ c.from_residual.result c.from_residual.ensures.1;
  received = on_ok_none _ _ c.from_residual.result c.from_residual.ensures.1;
  keeps = keeps-more (g.S.LineStore.seen c.args.store.now) (g.S.LineStore.seen c.loop-j.store) (g.S.LineStore.seen c.apply_hunk.new.store) c.loop-j.invariant.keeps c.in_err-step.ensures.keeps;
  sink = sink_passes_both c.loop-j.invariant.sink c.in_err-step.ensures.sink;
  rest = g.met.O.Sink.rest_both _ _ _ c.loop-j.invariant.rest c.in_err-step.ensures.rest;
  cause = (
      let a = g.S.LineStore.seen c.args.store.now in
      let b = g.S.LineStore.seen c.loop-j.store in
      let d = g.S.LineStore.seen c.apply_hunk.new.store in
      let u = g.O.Sink.view c.args.out.now in
      let v = g.O.Sink.view c.loop-j.out in
      let w = g.O.Sink.view c.apply_hunk.new.out in
      let fault = c.in_err-step.field-0.0 in
      if-err-still (λ e. HasApplyCause e a d u w) fault c.from_residual.result c.from_residual.ensures.1 (apply-cause-more fault a b d u v w c.loop-j.invariant.keeps c.loop-j.invariant.sink c.in_err-step.ensures.cause));
  filled = on-err _ (FillsFirst c.args.verdicts.now c.loop-j.verdicts) (record { count = c.loop-j.j; tried = c.loop-j.invariant.tried; others = c.loop-j.invariant.others });
}

pub loop-j-preserved : goal.loop-j-preserved
loop-j-preserved g c =
    let view = g.O.Sink.view in
    let text = c.args.text.now in
    let side = c.args.side in
    let hunks = c.args.hunks.now in
    let fuzz = c.args.fuzz in
    let loose = c.args.loose in
    let state = c.loop-j.state in
    let j = c.loop-j.j in
    let hunk = c.index-hunks-j.result in
    let step = c.in_ok-step.step in
    let sum : body_lines (take (j + 1) hunks) ≡ body_lines (take j hunks) + length hunk.body.items = sum_by_more (λ (h : Hunk). length h.body.items) hunks j hunk c.loop-j-test.true ∙ ap (λ (h : Hunk). body_lines (take j hunks) + length h.body.items) (sym c.index-hunks-j.is) in
    record {
      keeps = keeps-more _ _ _ c.loop-j.invariant.keeps c.in_ok-step.ensures.keeps;
      sink = sink_passes_both c.loop-j.invariant.sink c.in_ok-step.ensures.sink;
      rest = g.met.O.Sink.rest_both _ _ _ c.loop-j.invariant.rest c.in_ok-step.ensures.rest;
      within = subst (λ n. step.state.consumed ≤ n) c.loop-j.invariant.keeps.count c.in_ok-step.ensures.within;
      far_back = c.in_ok-step.ensures.far_back;
      far_on = c.in_ok-step.ensures.far_on;
      net_above = net-over (body_lines (take (j + 1) hunks)) (body_lines (take j hunks)) (length hunk.body.items) state.net step.state.net sum c.loop-j.invariant.net_above c.in_ok-step.ensures.net_above;
      net_below = net-under (body_lines (take (j + 1) hunks)) (body_lines (take j hunks)) (length hunk.body.items) state.net step.state.net sum c.loop-j.invariant.net_below c.in_ok-step.ensures.net_below;
      tried = tried-more c.loop-j.verdicts j step.verdict (subst (λ n. j < n) (sym (c.loop-j.auto.verdicts ∙ c.requires.rows)) c.loop-j-test.true) c.loop-j.invariant.tried c.in_ok-step.ensures.tried;
      others = others-more c.loop-j.verdicts c.args.verdicts.now j step.verdict c.loop-j.invariant.others;
      placed = λ lines told.
          c.loop-j.invariant.placed lines told
          ∙ verdicts-more lines fuzz loose text side hunks j hunk state step.state step.verdict step.verdict c.loop-j.verdicts c.loop-j-test.true c.index-hunks-j.is (c.loop-j.auto.verdicts ∙ c.requires.rows)
          (c.in_ok-step.ensures.verdict lines (c.loop-j.invariant.keeps.told ∙ told)) (c.in_ok-step.ensures.state lines (c.loop-j.invariant.keeps.told ∙ told));
      written = λ lines told.
          let h = taken text side hunk in
          let place = spot lines fuzz loose h state in
          let next = after_hunk h state place in
          let later : List Edit = all_edits (spots lines fuzz loose next (taken_all text side (drop (j + 1) hunks))) (taken_all text side (drop (j + 1) hunks)) in
          let all : List (List ℕ) = spliced_from lines (all_edits (spots lines fuzz loose at_start (taken_all text side hunks)) (taken_all text side hunks)) 1 in
          let left : List (List ℕ) = spliced_from lines (all_edits (spots lines fuzz loose state (taken_all text side (drop j hunks))) (taken_all text side (drop j hunks))) (state.consumed + 1) in
          let end : List (List ℕ) = spliced_from lines (all_edits (spots lines fuzz loose step.state (taken_all text side (drop (j + 1) hunks))) (taken_all text side (drop (j + 1) hunks))) (step.state.consumed + 1) in
          let there : spliced_from lines (hunk_edits place h ++ later) (state.consumed + 1) ≡ left = ap (λ es. spliced_from lines es (state.consumed + 1)) (sym (edits-more lines fuzz loose text side hunks j hunk state c.loop-j-test.true c.index-hunks-j.is)) in
          let moved : next ≡ step.state = sym (c.in_ok-step.ensures.state lines (c.loop-j.invariant.keeps.told ∙ told)) in
          wrote-both (view c.args.out.now) (view c.loop-j.out) (view c.apply_hunk.new.out) first c.loop-j.tail step.tail all left end (c.loop-j.invariant.written lines told)
          (wrote-same (view c.loop-j.out) (view c.apply_hunk.new.out) c.loop-j.tail step.tail (spliced_from lines (hunk_edits place h ++ later) (state.consumed + 1)) left (spliced_from lines later (next.consumed + 1)) end there
          (ap (λ s. spliced_from lines (all_edits (spots lines fuzz loose s (taken_all text side (drop (j + 1) hunks))) (taken_all text side (drop (j + 1) hunks))) (s.consumed + 1)) moved)
          (c.in_ok-step.ensures.written lines (c.loop-j.invariant.keeps.told ∙ told) later (edits-behind lines fuzz loose text side (drop (j + 1) hunks) next)));
    }

pub returns-in_err-end : goal.returns-in_err-end
returns-in_err-end g c = record {
  part = (
      let view = g.O.Sink.view in
      let text = c.args.text.now in
      let side = c.args.side in
      let hunks = c.args.hunks.now in
      let fuzz = c.args.fuzz in
      let loose = c.args.loose in
      let state = c.loop-j.state in
      on-err _ ((lines : List (List ℕ)) → (g.S.LineStore.seen c.args.store.now).told ≡ Some lines → ReceivesPart (view c.args.out.now) (view c.copy_lines.new.out) (applied lines fuzz loose (taken_all text side hunks)))
      (λ lines told.
      let count : c.count-count.result ≡ length lines = c.count-count.ensures.is ∙ (c.count-count.ensures.told lines told).count in
      let all : List (List ℕ) = spliced_from lines (all_edits (spots lines fuzz loose at_start (taken_all text side hunks)) (taken_all text side hunks)) 1 in
      let left : List (List ℕ) = spliced_from lines (all_edits (spots lines fuzz loose state (taken_all text side (drop c.loop-j.j hunks))) (taken_all text side (drop c.loop-j.j hunks))) (state.consumed + 1) in
      let there : spliced_from lines [] (state.consumed + 1) ≡ left = ap (λ es. spliced_from lines es (state.consumed + 1)) (sym (edits-end lines fuzz loose text side hunks c.loop-j.j state c.loop-j-test.false)) in
      subst (ReceivesPart (view c.args.out.now) (view c.copy_lines.new.out)) (applied-is lines fuzz loose (taken_all text side hunks))
      (part-whole (view c.args.out.now) (view c.copy_lines.new.out) false all refl
      (part-after (view c.args.out.now) (view c.loop-j.out) (view c.copy_lines.new.out) first c.loop-j.tail all left (c.loop-j.invariant.written lines told)
      (part-same (view c.loop-j.out) (view c.copy_lines.new.out) c.loop-j.tail.is_open (spliced_from lines [] (state.consumed + 1)) left there
      (copied-part (view c.loop-j.out) (view c.copy_lines.new.out) c.loop-j.tail.is_open lines [] (state.consumed + 1) (c.count-count.result + 1) (omega arith) (omega arith) (omega arith) tt
      (c.in_err-end.ensures.part lines (c.loop-j.invariant.keeps.told ∙ told) (spliced_from lines [] (c.count-count.result + 1)))))))));
  applied = if_ok_none _ _ c.from_residual-in_err-end.result c.from_residual-in_err-end.ensures.1;
  failed = if_ok_none _ _ c.from_residual-in_err-end.result c.from_residual-in_err-end.ensures.1;
  inexact = if_ok_none _ _ c.from_residual-in_err-end.result c.from_residual-in_err-end.ensures.1;
  output_empty = if_ok_none _ _ c.from_residual-in_err-end.result c.from_residual-in_err-end.ensures.1;
  placed = on_ok_none _ _ c.from_residual-in_err-end.result c.from_residual-in_err-end.ensures.1;
  tried = on_ok_none _ _ c.from_residual-in_err-end.result c.from_residual-in_err-end.ensures.1;
  received = on_ok_none _ _ c.from_residual-in_err-end.result c.from_residual-in_err-end.ensures.1;
  keeps = keeps-more (g.S.LineStore.seen c.args.store.now) (g.S.LineStore.seen c.loop-j.store) (g.S.LineStore.seen c.copy_lines.new.store) c.loop-j.invariant.keeps c.in_err-end.ensures.keeps;
  sink = sink_passes_both c.loop-j.invariant.sink c.in_err-end.ensures.sink;
  rest = g.met.O.Sink.rest_both _ _ _ c.loop-j.invariant.rest c.in_err-end.ensures.rest;
  cause = (
      let a = g.S.LineStore.seen c.args.store.now in
      let b = g.S.LineStore.seen c.loop-j.store in
      let d = g.S.LineStore.seen c.copy_lines.new.store in
      let u = g.O.Sink.view c.args.out.now in
      let v = g.O.Sink.view c.loop-j.out in
      let w = g.O.Sink.view c.copy_lines.new.out in
      let fault = c.in_err-end.field-0.0 in
      if-err-still (λ e. HasApplyCause e a d u w) fault c.from_residual-in_err-end.result c.from_residual-in_err-end.ensures.1 (apply-cause-more fault a b d u v w c.loop-j.invariant.keeps c.loop-j.invariant.sink c.in_err-end.ensures.cause));
  filled = on-err _ (FillsFirst c.args.verdicts.now c.loop-j.verdicts) (record { count = c.loop-j.j; tried = c.loop-j.invariant.tried; others = c.loop-j.invariant.others });
}

-- all lines were written
wholly : (g : given.Over) (c : goal.After-session_of g) → (lines : List (List ℕ)) → (g.S.LineStore.seen c.args.store.now).told ≡ Some lines
    → Wrote (g.O.Sink.view c.args.out.now) (g.O.Sink.view c.copy_lines.new.out) first c.in_ok-end.end (spliced_from lines (all_edits (spots lines c.args.fuzz c.args.loose at_start (taken_all c.args.text.now c.args.side c.args.hunks.now)) (taken_all c.args.text.now c.args.side c.args.hunks.now)) 1) []
wholly g c lines told =
    let view = g.O.Sink.view in
    let text = c.args.text.now in
    let side = c.args.side in
    let hunks = c.args.hunks.now in
    let fuzz = c.args.fuzz in
    let loose = c.args.loose in
    let state = c.loop-j.state in
    let count : c.count-count.result ≡ length lines = c.count-count.ensures.is ∙ (c.count-count.ensures.told lines told).count in
    let all : List (List ℕ) = spliced_from lines (all_edits (spots lines fuzz loose at_start (taken_all text side hunks)) (taken_all text side hunks)) 1 in
    let left : List (List ℕ) = spliced_from lines (all_edits (spots lines fuzz loose state (taken_all text side (drop c.loop-j.j hunks))) (taken_all text side (drop c.loop-j.j hunks))) (state.consumed + 1) in
    let there : spliced_from lines [] (state.consumed + 1) ≡ left = ap (λ es. spliced_from lines es (state.consumed + 1)) (sym (edits-end lines fuzz loose text side hunks c.loop-j.j state c.loop-j-test.false)) in
    let none : spliced_from lines [] (c.count-count.result + 1) ≡ [] = ap (λ n. spliced_from lines [] (n + 1)) count ∙ nothing-left lines in
    wrote-both (view c.args.out.now) (view c.loop-j.out) (view c.copy_lines.new.out) first c.loop-j.tail c.in_ok-end.end all left [] (c.loop-j.invariant.written lines told)
    (wrote-same (view c.loop-j.out) (view c.copy_lines.new.out) c.loop-j.tail c.in_ok-end.end (spliced_from lines [] (state.consumed + 1)) left (spliced_from lines [] (c.count-count.result + 1)) [] there none
    (copied (view c.loop-j.out) (view c.copy_lines.new.out) c.loop-j.tail c.in_ok-end.end lines [] (state.consumed + 1) (c.count-count.result + 1) (omega arith) (omega arith) (omega arith) tt
    (c.in_ok-end.ensures.written lines (c.loop-j.invariant.keeps.told ∙ told) (spliced_from lines [] (c.count-count.result + 1)))))

-- as many rows as were tried are filled when a hunk fails
pub apply_hunk-requires-clause-lawful : goal.apply_hunk-requires-clause-lawful
apply_hunk-requires-clause-lawful g c = subst (IsLawful c.args.text.now) (sym c.index-hunks-j.is) (c.requires.lawful c.loop-j.j c.index-hunks-j.result c.loop-j-test.true)

pub apply_hunk-requires-clause-consumed : goal.apply_hunk-requires-clause-consumed
apply_hunk-requires-clause-consumed g c = subst (λ n. c.loop-j.state.consumed ≤ n) (sym c.loop-j.invariant.keeps.count) c.loop-j.invariant.within

pub apply_hunk-requires-clause-far_back : goal.apply_hunk-requires-clause-far_back
apply_hunk-requires-clause-far_back g c = c.loop-j.invariant.far_back

pub apply_hunk-requires-clause-far_on : goal.apply_hunk-requires-clause-far_on
apply_hunk-requires-clause-far_on g c = c.loop-j.invariant.far_on

pub apply_hunk-requires-clause-few_dropped : goal.apply_hunk-requires-clause-few_dropped
apply_hunk-requires-clause-few_dropped g c =
    few-over (body_lines c.args.hunks.now) (body_lines (take c.loop-j.j c.args.hunks.now)) c.loop-j.state.net (sum_by-take-le (λ (h : Hunk). length h.body.items) c.args.hunks.now c.loop-j.j) c.requires.short c.loop-j.invariant.net_above

pub apply_hunk-requires-clause-few_added : goal.apply_hunk-requires-clause-few_added
apply_hunk-requires-clause-few_added g c =
    few-under (body_lines c.args.hunks.now) (body_lines (take c.loop-j.j c.args.hunks.now)) c.loop-j.state.net (sum_by-take-le (λ (h : Hunk). length h.body.items) c.args.hunks.now c.loop-j.j) c.requires.short c.loop-j.invariant.net_below

pub copy_lines-requires-clause-counted : goal.copy_lines-requires-clause-counted
copy_lines-requires-clause-counted g c lines told =
    let keeps = c.loop-j.invariant.keeps in
    keeps.count ∙ (c.count-count.ensures.told lines (sym keeps.told ∙ told)).count

pub copy_lines-requires-clause-order : goal.copy_lines-requires-clause-order
copy_lines-requires-clause-order g c = omega (arith, c.loop-j.invariant.within, c.count-count.ensures.is)

pub copy_lines-requires-clause-high : goal.copy_lines-requires-clause-high
copy_lines-requires-clause-high g c = omega (arith, c.loop-j.invariant.keeps.count, c.count-count.ensures.is)

pub copy_lines-requires-clause-low : goal.copy_lines-requires-clause-low
copy_lines-requires-clause-low g c = omega arith

pub session_of-requires : goal.session_of-requires
session_of-requires g c = omega (arith, c.loop-j.auto.verdicts, c.requires.rows, c.requires.few)

pub bounds-verdicts-j : goal.bounds-verdicts-j
bounds-verdicts-j g c = subst (λ n. c.loop-j.j < n) (sym (c.loop-j.auto.verdicts ∙ c.requires.rows)) c.loop-j-test.true

pub offset_bounds-verdicts-j : goal.offset_bounds-verdicts-j
offset_bounds-verdicts-j g c = fits-offset c.loop-j.j (length c.args.hunks.now) c.loop-j-test.true c.requires.few

pub offset_bounds-hunks-j : goal.offset_bounds-hunks-j
offset_bounds-hunks-j g c = fits-offset c.loop-j.j (length c.args.hunks.now) c.loop-j-test.true c.requires.few

pub bounds-hunks-j : goal.bounds-hunks-j
bounds-hunks-j g c = c.loop-j-test.true

pub overflow_add-count : goal.overflow_add-count
overflow_add-count g c = fits-count c.count-count.result c.count-count.ensures.most

pub overflow_add-state : goal.overflow_add-state
overflow_add-state g c = fits-next c.loop-j.state.consumed (g.S.LineStore.seen c.args.store.now).count c.count-count.result c.loop-j.invariant.within c.count-count.ensures.is c.count-count.ensures.most

pub returns : goal.returns
returns g c = record {
  placed = λ lines told.
      sym (c.loop-j.invariant.placed lines told
      ∙ verdicts-end lines c.args.fuzz c.args.loose c.args.text.now c.args.side c.args.hunks.now c.loop-j.j c.loop-j.state c.loop-j.verdicts c.loop-j-test.false (c.loop-j.auto.verdicts ∙ c.requires.rows));
  tried = (
      let all : take c.loop-j.j c.loop-j.verdicts ≡ c.loop-j.verdicts = take_all c.loop-j.j c.loop-j.verdicts (omega arith) in
      subst (All IsTried) all c.loop-j.invariant.tried);
  received = λ lines told.
      let view = g.O.Sink.view in
      let hunks = taken_all c.args.text.now c.args.side c.args.hunks.now in
      let all : List (List ℕ) = spliced_from lines (all_edits (spots lines c.args.fuzz c.args.loose at_start hunks) hunks) 1 in
      subst (Receives (view c.args.out.now) (view c.copy_lines.new.out)) (applied-is lines c.args.fuzz c.args.loose hunks)
      (wrote-whole (view c.args.out.now) (view c.copy_lines.new.out) first c.in_ok-end.end all (wholly g c lines told) refl);
  output_empty = λ lines told.
      let view = g.O.Sink.view in
      let hunks = taken_all c.args.text.now c.args.side c.args.hunks.now in
      let all : List (List ℕ) = spliced_from lines (all_edits (spots lines c.args.fuzz c.args.loose at_start hunks) hunks) 1 in
      c.session_of.ensures.nothing ∙ wrote-nothing (view c.args.out.now) (view c.copy_lines.new.out) first c.in_ok-end.end all (wholly g c lines told) refl refl
      ∙ ap is_nothing (applied-is lines c.args.fuzz c.args.loose hunks);
  part = tt;
  filled = tt;
  cause = tt;
  keeps = keeps-more (g.S.LineStore.seen c.args.store.now) (g.S.LineStore.seen c.loop-j.store) (g.S.LineStore.seen c.copy_lines.new.store) c.loop-j.invariant.keeps c.in_ok-end.ensures.keeps;
  sink = sink_passes_both c.loop-j.invariant.sink c.in_ok-end.ensures.sink;
  rest = g.met.O.Sink.rest_both _ _ _ c.loop-j.invariant.rest c.in_ok-end.ensures.rest;
  applied = c.session_of.ensures.applied;
  failed = c.session_of.ensures.failed;
  inexact = c.session_of.ensures.inexact;
}
