use Rattle.std.proofs.Common.{◌∙◌, ap, map, string_bytes, refl, Global, String, Vec}
use Rattle.cli_run_answers.specs.declared.why.Why.TheVariants.{Done}
use Rattle.cli_filter.specs.InTurn.{CallRuns, devices}
use Rattle.cli_filter.proofs.Turning.{ends_here, goes_on, run_as, stops_here}
use Rattle.cli_filter.proofs.turns.run_calls.Goals as goal

pub loop-call-init : goal.loop-call-init
loop-call-init g c = record {
  runs = λ e why later. later;
  rest = g.met.O.Sink.rest_none c.args.out.now;
}

pub loop-call-preserved : goal.loop-call-preserved
loop-call-preserved g c =
    let R = CallRuns g.T.Tree.view g.F.Finder.view g.I.Source.view g.O.Sink.view in
    let f = λ (x : Vec (String Global) Global). map string_bytes x.items in
    let here = devices c.loop-call.tree c.loop-call.finder c.loop-call.source c.loop-call.out in
    let there = devices c.run_filter.new.tree c.run_filter.new.finder c.run_filter.new.source c.run_filter.new.out in
    let run = run_as g.T.Tree.view g.F.Finder.view g.I.Source.view g.O.Sink.view (map string_bytes c.deref.result.now) _ here there c.run_filter.result Done
    (ap (map string_bytes) c.deref.ensures.value ∙ ap f c.call-item.is) c.in-Done.is
    (record { carries = c.run_filter.ensures.carries; words_first = c.run_filter.ensures.words; still = c.run_filter.ensures.still; silent = c.run_filter.ensures.silent; unread = c.run_filter.ensures.unread; unasked = c.run_filter.ensures.unasked; no_pattern = c.run_filter.ensures.no_pattern }) in record {
      runs = goes_on R f c.args.calls.now _ here c.loop-call.call-index c.call-item.result c.loop-call-test.true there run c.loop-call.invariant.runs;
      rest = g.met.O.Sink.rest_both _ _ _ c.loop-call.invariant.rest c.run_filter.ensures.rest;
    }

pub returns-in_default : goal.returns-in_default
returns-in_default g c =
    let R = CallRuns g.T.Tree.view g.F.Finder.view g.I.Source.view g.O.Sink.view in
    let f = λ (x : Vec (String Global) Global). map string_bytes x.items in
    let here = devices c.loop-call.tree c.loop-call.finder c.loop-call.source c.loop-call.out in
    let there = devices c.run_filter.new.tree c.run_filter.new.finder c.run_filter.new.source c.run_filter.new.out in
    let run = run_as g.T.Tree.view g.F.Finder.view g.I.Source.view g.O.Sink.view (map string_bytes c.deref.result.now) _ here there c.run_filter.result c.run_filter.result
    (ap (map string_bytes) c.deref.ensures.value ∙ ap f c.call-item.is) refl
    (record { carries = c.run_filter.ensures.carries; words_first = c.run_filter.ensures.words; still = c.run_filter.ensures.still; silent = c.run_filter.ensures.silent; unread = c.run_filter.ensures.unread; unasked = c.run_filter.ensures.unasked; no_pattern = c.run_filter.ensures.no_pattern }) in record {
      runs = stops_here R f c.args.calls.now _ here c.loop-call.call-index c.call-item.result c.loop-call-test.true there c.run_filter.result run c.in_default.not-Done c.loop-call.invariant.runs;
      rest = g.met.O.Sink.rest_both _ _ _ c.loop-call.invariant.rest c.run_filter.ensures.rest;
    }

pub returns : goal.returns
returns g c = record {
  runs = ends_here (CallRuns g.T.Tree.view g.F.Finder.view g.I.Source.view g.O.Sink.view) (λ x. map string_bytes x.items) c.args.calls.now _ _ c.loop-call.call-index c.loop-call-test.false c.loop-call.invariant.runs;
  rest = c.loop-call.invariant.rest;
}
