use Rattle.std.proofs.Common.{◌≡◌, ◌+◌, ◌++◌, ℕ, List, Ok, Err, length, drop, sym, ◌∙◌, ap, arith}
use Rattle.std.proofs.lemmas.List.{take_all}
use Rattle.outside.proofs.Writing.{writes_none, writes_stop, writes_then, writes_is}
use Rattle.patch_options.specs.PlainJob.{plain_options}
use Rattle.apply_task.specs.Contexts.{PastFilePatch}
use Rattle.apply_outcome.specs.Outcome.{text_if, rejected_before}
use Rattle.apply_outcome.specs.ContextView.{plain_context}
use Rattle.apply_outcome.proofs.PastMarks.{no_mark, marks-length}
use Rattle.apply_outcome.proofs.Rejecting.{rejected-none, rejected-more, rejected-split}
use Rattle.apply_outcome.proofs.rejects.put_earlier.Goals as goal

pub loop-k-init : goal.loop-k-init
loop-k-init g c = record {
  writes = writes_is (Ok tt) _ (writes_none (g.O.Sink.view c.args.out.now) tt) (rejected-none c.args.name.now);
  rest = g.met.O.Sink.rest_none c.args.out.now;
}

pub loop-k-preserved : goal.loop-k-preserved
loop-k-preserved g c =
    let t = c.args.turn.now in
    let past = (plain_context t).past in
    let n = c.args.name.now in
    let k = c.loop-k.k in
    let all : length past ≡ t.count = marks-length (plain_options t.task.options.now) t.task.set.now t.count t.verdicts.now c.requires.turn.within c.requires.turn.task.ready.rows in
    let mark = c.earlier_patch.ensures.mark no_mark in
    record {
      writes = writes_is (Ok tt) _ (writes_then tt (Ok tt) c.loop-k.invariant.writes (writes_is (Ok tt) _ c.in_ok-put_if_to.ensures.writes (ap (λ (m : PastFilePatch). text_if n m.rejected) (sym mark)))) (rejected-more past k no_mark n (omega arith));
      rest = g.met.O.Sink.rest_both _ _ _ c.loop-k.invariant.rest c.put_if_to.ensures.rest;
    }

pub returns-in_err-put_if_to : goal.returns-in_err-put_if_to
returns-in_err-put_if_to g c = record {
  writes = (
      let t = c.args.turn.now in
      let past = (plain_context t).past in
      let n = c.args.name.now in
      let k = c.loop-k.k in
      let all : length past ≡ t.count = marks-length (plain_options t.task.options.now) t.task.set.now t.count t.verdicts.now c.requires.turn.within c.requires.turn.task.ready.rows in
      let mark = c.earlier_patch.ensures.mark no_mark in
      let stop = writes_is c.from_residual.result _ (writes_stop c.in_err-put_if_to.field-0.0 c.from_residual.result (rejected_before (drop (k + 1) past) n) c.from_residual.ensures.0
      (writes_then tt (Err c.in_err-put_if_to.field-0.0) c.loop-k.invariant.writes (writes_is (Err c.in_err-put_if_to.field-0.0) _ c.in_err-put_if_to.ensures.writes (ap (λ (m : PastFilePatch). text_if n m.rejected) (sym mark))))) in
      stop (ap (λ (l : List ℕ). l ++ rejected_before (drop (k + 1) past) n) (rejected-more past k no_mark n (omega arith)) ∙ rejected-split past (k + 1) n));
  rest = g.met.O.Sink.rest_both _ _ _ c.loop-k.invariant.rest c.in_err-put_if_to.ensures.rest;
}

pub returns : goal.returns
returns g c = record {
  writes = (
      let t = c.args.turn.now in
      let past = (plain_context t).past in
      let all : length past ≡ t.count = marks-length (plain_options t.task.options.now) t.task.set.now t.count t.verdicts.now c.requires.turn.within c.requires.turn.task.ready.rows in
      writes_is (Ok tt) _ c.loop-k.invariant.writes (ap (λ (l : List PastFilePatch). rejected_before l c.args.name.now) (take_all c.loop-k.k past (omega arith))));
  rest = c.loop-k.invariant.rest;
}

pub put_if_to-requires-clause-fit : goal.put_if_to-requires-clause-fit
put_if_to-requires-clause-fit g c = c.earlier_patch.ensures.fit

pub put_if_to-requires-clause-rows : goal.put_if_to-requires-clause-rows
put_if_to-requires-clause-rows g c = c.earlier_patch.ensures.rows

pub put_if_to-requires-clause-turn : goal.put_if_to-requires-clause-turn
put_if_to-requires-clause-turn g c = c.requires.turn

pub earlier_patch-requires-clause-low : goal.earlier_patch-requires-clause-low
earlier_patch-requires-clause-low g c = c.loop-k-test.true

pub earlier_patch-requires-clause-turn : goal.earlier_patch-requires-clause-turn
earlier_patch-requires-clause-turn g c = c.requires.turn
