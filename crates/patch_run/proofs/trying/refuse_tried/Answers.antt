use Rattle.std.proofs.Common.{List, length, refl, sym, ◌∙◌, ap, subst}
use Rattle.std.proofs.lemmas.List.{length-replicate}
use Rattle.std.proofs.lemmas.Result.{IfErr-weaker, on_ok_weaker}
use Rattle.outside.specs.TreeView.{passes_both}
use Rattle.outside.specs.Calls.{untouched_both}
use Rattle.outside.specs.SinkView.{sink_passes_none, sink_passes_both}
use Rattle.hunk_core.specs.declared.Verdict.{Verdict}
use Rattle.hunk_core.specs.declared.Verdict.TheVariants.{Nowhere}
use Rattle.apply_task.specs.declared.fault.RunFault.{RunFault}
use Rattle.apply_task.proofs.Tidy.{tidy_both}
use Rattle.patch_run.specs.Doing.{HasEndCause}
use Rattle.patch_run.proofs.Barred.{begun_wet, begun_dry, begun_for, begun_some, end_after, gone_still, on_any}
use Rattle.patch_run.proofs.trying.refuse_tried.Goals as goal

pub returns-in-Err : goal.returns-in-Err
returns-in-Err g c =
    let u = g.T.Tree.view c.args.tree.now in
    let v = g.T.Tree.view c.drop_output.new.tree in
    let d = g.O.Sink.view c.args.out.now in
    let cause = c.in-Err.ensures.goes.cause in
    record {
      tree = c.drop_output.ensures.goes.passes;
      sink = sink_passes_none d;
      cause = subst (λ (x : RunFault). HasEndCause x u v d d) (sym cause.0) cause.1;
      quiet = tt;
      gone = tt;
      tidy = tt;
      rest = g.met.O.Sink.rest_none _;
      dry = λ dry. c.drop_output.ensures.untouched (begun_dry c.args.turn.now.task.options.now.dry_run c.args.temp c.args.target.now.temp c.requires.begun dry);
      rows = refl;
      nowhere = tt;
      row = tt;
      refused = tt;
    }

pub returns-in-Err-say_barrier : goal.returns-in-Err-say_barrier
returns-in-Err-say_barrier g c = record {
  tree = c.drop_output.ensures.goes.passes;
  sink = c.say_barrier.ensures.writes.call.passes;
  cause = c.in-Err-say_barrier.ensures.writes.call.cause refl;
  quiet = tt;
  gone = tt;
  tidy = tt;
  rest = c.say_barrier.ensures.rest;
  dry = λ dry. c.drop_output.ensures.untouched (begun_dry c.args.turn.now.task.options.now.dry_run c.args.temp c.args.target.now.temp c.requires.begun dry);
  rows = refl;
  nowhere = tt;
  row = tt;
  refused = tt;
}

pub returns : goal.returns
returns g c =
    let u = g.T.Tree.view c.args.tree.now in
    let v = g.T.Tree.view c.drop_output.new.tree in
    let w = g.T.Tree.view c.refuse.new.tree in
    let said = c.say_barrier.ensures.writes.call.passes in
    let drops = c.drop_output.ensures.goes in
    let r = c.refuse.result in
    let dry_run = c.args.turn.now.task.options.now.dry_run in
    record {
      tree = passes_both drops.passes c.refuse.ensures.tree;
      sink = sink_passes_both said c.refuse.ensures.sink;
      cause = IfErr-weaker r _ _ (λ fault is. end_after u v w (g.O.Sink.view c.args.out.now) (g.O.Sink.view c.say_barrier.new.out) (g.O.Sink.view c.refuse.new.out) fault drops.passes said is) c.refuse.ensures.cause;
      quiet = c.refuse.ensures.quiet;
      gone = on_ok_weaker r (λ tidy wet. gone_still c.args.target.now.temp c.refuse.ensures.tree tidy c.requires.named.temps.own (c.in-Ok.ensures.gone (begun_wet dry_run c.args.temp c.args.target.now.temp c.requires.begun wet))) c.refuse.ensures.tidy;
      tidy = on_ok_weaker r (λ tidy. tidy_both u v w drops.passes c.in-Ok.ensures.tidy tidy) c.refuse.ensures.tidy;
      rest = g.met.O.Sink.rest_both _ _ _ c.say_barrier.ensures.rest c.refuse.ensures.rest;
      dry = λ dry. untouched_both (c.drop_output.ensures.untouched (begun_dry dry_run c.args.temp c.args.target.now.temp c.requires.begun dry)) (c.refuse.ensures.dry dry);
      rows = ap (λ (l : List Verdict). length l) c.refuse.ensures.nowhere ∙ length-replicate (length c.args.verdicts.now) Nowhere;
      nowhere = on_any r c.refuse.ensures.nowhere;
      row = c.refuse.ensures.row;
      refused = c.refuse.ensures.refused;
    }

pub drop_output-requires-clause-named : goal.drop_output-requires-clause-named
drop_output-requires-clause-named g c = c.requires.named

pub drop_output-requires-clause-temp : goal.drop_output-requires-clause-temp
drop_output-requires-clause-temp g c = begun_for c.args.turn.now.task.options.now.dry_run c.args.temp c.args.target.now.temp c.requires.begun

pub drop_output-requires-clause-quiet : goal.drop_output-requires-clause-quiet
drop_output-requires-clause-quiet g c = c.requires.quiet

pub drop_output-requires-clause-there : goal.drop_output-requires-clause-there
drop_output-requires-clause-there g c = λ some. c.requires.there (begun_some c.args.turn.now.task.options.now.dry_run c.args.temp c.args.target.now.temp c.requires.begun some)

pub refuse-requires-clause-turn : goal.refuse-requires-clause-turn
refuse-requires-clause-turn g c = c.requires.turn

pub refuse-requires-clause-within : goal.refuse-requires-clause-within
refuse-requires-clause-within g c = c.requires.within

pub refuse-requires-clause-rows : goal.refuse-requires-clause-rows
refuse-requires-clause-rows g c = c.requires.rows

pub refuse-requires-clause-quiet : goal.refuse-requires-clause-quiet
refuse-requires-clause-quiet g c = c.in-Ok.ensures.goes.quiet
