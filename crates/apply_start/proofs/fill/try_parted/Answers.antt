use Rattle.std.proofs.Common.{◌∙◌, ℕ, List, sym, subst}
use Rattle.std.proofs.lemmas.Result.{on_ok_weaker}
use Rattle.outside.specs.SinkView.{Receives, sink_passes_none}
use Rattle.outside.proofs.Exits.{if_ok_none, on_ok_none}
use Rattle.line_store.proofs.StoreLemmas.{keeps-more}
use Rattle.hunk_apply.specs.declared.ApplyFault.TheVariants.{Line}
use Rattle.hunk_apply.specs.Faults.{HasApplyCause}
use Rattle.hunk_apply.proofs.FaultLemmas.{if-err-still, apply-cause-more}
use Rattle.apply_task.specs.TaskView.{plain_task}
use Rattle.apply_start.proofs.Barring.{output_barred, output_free}
use Rattle.apply_start.proofs.fill.try_parted.Goals as goal

pub returns-then-is_barred : goal.returns-then-is_barred
returns-then-is_barred g c = record {
  keeps = c.try_plain.ensures.keeps;
  sink = c.try_plain.ensures.sink;
  rest = c.try_plain.ensures.rest;
  cause = c.try_plain.ensures.cause;
  session = c.try_plain.ensures.session;
  verdicts = c.try_plain.ensures.verdicts;
  tried = c.try_plain.ensures.tried;
  rows = c.try_plain.ensures.rows;
  received = (
      on_ok_weaker c.try_plain.result
      (λ got lines told. subst (λ (b : List ℕ). Receives (g.O.Sink.view c.args.out.now) (g.O.Sink.view c.try_plain.new.out) b)
      (sym (output_barred (plain_task c.args.task.now) c.args.side c.args.define.now lines (sym (c.is_barred.ensures.barred lines told) ∙ c.if-is_barred.true)))
      (got lines told))
      c.try_plain.ensures.received);
}

pub try_plain-requires-clause-task : goal.try_plain-requires-clause-task
try_plain-requires-clause-task g c = c.requires.task

pub try_plain-requires-clause-rows : goal.try_plain-requires-clause-rows
try_plain-requires-clause-rows g c = c.requires.rows

pub returns : goal.returns
returns g c = record {
  keeps = keeps-more _ _ _ c.in_ok-session.ensures.keeps c.in_ok-put_parted.ensures.keeps;
  sink = c.in_ok-put_parted.ensures.sink;
  rest = c.in_ok-put_parted.ensures.rest;
  cause = tt;
  received = λ lines told.
      subst (λ (b : List ℕ). Receives (g.O.Sink.view c.args.out.now) (g.O.Sink.view c.put_parted.new.out) b)
      (sym (output_free (plain_task c.args.task.now) c.args.side c.args.define.now lines (sym (c.is_barred.ensures.barred lines told) ∙ c.if-is_barred.false)))
      (c.in_ok-put_parted.ensures.received lines (c.in_ok-session.ensures.keeps.told ∙ told));
  session = c.in_ok-session.ensures.session;
  verdicts = c.in_ok-session.ensures.verdicts;
  tried = c.in_ok-session.ensures.tried;
  rows = c.in_ok-session.ensures.rows;
}

pub returns-in_err-session : goal.returns-in_err-session
returns-in_err-session g c = record {
  keeps = c.in_err-session.ensures.keeps;
  sink = sink_passes_none _;
  rest = g.met.O.Sink.rest_none _;
  session = if_ok_none _ _ c.from_residual.result c.from_residual.ensures.1;
  rows = c.in_err-session.ensures.rows;
  received = on_ok_none _ _ c.from_residual.result c.from_residual.ensures.1;
  verdicts = on_ok_none _ _ c.from_residual.result c.from_residual.ensures.1;
  tried = on_ok_none _ _ c.from_residual.result c.from_residual.ensures.1;
  cause = if-err-still (λ e. HasApplyCause e (g.P.LineStore.seen c.args.plan.now) (g.P.LineStore.seen c.try_nowhere.new.plan) (g.O.Sink.view c.args.out.now) (g.O.Sink.view c.args.out.now)) (Line c.in_err-session.field-0.0) c.from_residual.result c.from_residual.ensures.1 c.in_err-session.ensures.cause;
}

pub returns-in_err-put_parted : goal.returns-in_err-put_parted
returns-in_err-put_parted g c = record {
  keeps = keeps-more _ _ _ c.in_ok-session.ensures.keeps c.in_err-put_parted.ensures.keeps;
  sink = c.in_err-put_parted.ensures.sink;
  rest = c.in_err-put_parted.ensures.rest;
  session = if_ok_none _ _ c.from_residual-in_err-put_parted.result c.from_residual-in_err-put_parted.ensures.1;
  rows = c.in_ok-session.ensures.rows;
  received = on_ok_none _ _ c.from_residual-in_err-put_parted.result c.from_residual-in_err-put_parted.ensures.1;
  verdicts = on_ok_none _ _ c.from_residual-in_err-put_parted.result c.from_residual-in_err-put_parted.ensures.1;
  tried = on_ok_none _ _ c.from_residual-in_err-put_parted.result c.from_residual-in_err-put_parted.ensures.1;
  cause = (
      let fault = c.in_err-put_parted.field-0.0 in
      if-err-still (λ e. HasApplyCause e (g.P.LineStore.seen c.args.plan.now) (g.P.LineStore.seen c.put_parted.new.plan) (g.O.Sink.view c.args.out.now) (g.O.Sink.view c.put_parted.new.out)) fault c.from_residual-in_err-put_parted.result c.from_residual-in_err-put_parted.ensures.1
      (apply-cause-more fault (g.P.LineStore.seen c.args.plan.now) (g.P.LineStore.seen c.try_nowhere.new.plan) (g.P.LineStore.seen c.put_parted.new.plan) (g.O.Sink.view c.args.out.now) (g.O.Sink.view c.args.out.now) (g.O.Sink.view c.put_parted.new.out) c.in_ok-session.ensures.keeps (sink_passes_none (g.O.Sink.view c.args.out.now)) c.in_err-put_parted.ensures.cause));
}

pub try_nowhere-requires-clause-task : goal.try_nowhere-requires-clause-task
try_nowhere-requires-clause-task g c = c.requires.task

pub try_nowhere-requires-clause-rows : goal.try_nowhere-requires-clause-rows
try_nowhere-requires-clause-rows g c = c.requires.rows

pub put_parted-requires-clause-task : goal.put_parted-requires-clause-task
put_parted-requires-clause-task g c = c.requires.task

pub put_parted-requires-clause-define : goal.put_parted-requires-clause-define
put_parted-requires-clause-define g c = c.requires.define

pub put_parted-requires-clause-tried : goal.put_parted-requires-clause-tried
put_parted-requires-clause-tried g c = c.in_ok-session.ensures.tried

pub put_parted-requires-clause-rows : goal.put_parted-requires-clause-rows
put_parted-requires-clause-rows g c = c.in_ok-session.ensures.rows ∙ c.requires.rows

pub put_parted-requires-clause-placed : goal.put_parted-requires-clause-placed
put_parted-requires-clause-placed g c = λ lines told. c.in_ok-session.ensures.verdicts lines (sym c.in_ok-session.ensures.keeps.told ∙ told)

pub put_parted-requires-clause-open : goal.put_parted-requires-clause-open
put_parted-requires-clause-open g c = λ lines told. sym (c.is_barred.ensures.barred lines (sym c.in_ok-session.ensures.keeps.told ∙ told)) ∙ c.if-is_barred.false
