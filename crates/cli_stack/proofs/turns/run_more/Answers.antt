use Rattle.std.proofs.Common.{Ok, refl}
use Rattle.cli_run_answers.specs.declared.why.Why.TheVariants.{Done}
use Rattle.cli_stack.specs.InTurn.{OneRuns, devices}
use Rattle.cli_stack.proofs.Turning.{ends_here, goes_on, one_runs, stops_here}
use Rattle.cli_stack.proofs.turns.run_more.Goals as goal

pub loop-init : goal.loop-init
loop-init g c = record {
  runs = λ e why later. later;
  rest = g.met.O.Sink.rest_none c.args.out.now;
}

pub loop-preserved : goal.loop-preserved
loop-preserved g c =
    let R = OneRuns g.T.Tree.view g.C.Scratch.view g.O.Sink.view (Ok c.args.op) in
    let first = devices c.args.tree.now c.args.scratch c.args.out.now in
    let here = devices c.loop.tree c.loop.kept c.loop.out in
    let there = devices c.run_op-why.new.tree c.run_op-why.result.1 c.run_op-why.new.out in
    let run = one_runs g.T.Tree.view g.C.Scratch.view g.O.Sink.view here there c.args.op c.run_op-why.result.0 Done c.in-Done.is c.run_op-why.ensures.carries c.run_op-why.ensures.scratch in record {
      runs = goes_on R 9999 first here c.loop.counter c.loop-test.true there run c.loop.invariant.runs;
      rest = g.met.O.Sink.rest_both _ _ _ c.loop.invariant.rest c.run_op-why.ensures.rest;
    }

pub returns-in_default : goal.returns-in_default
returns-in_default g c =
    let R = OneRuns g.T.Tree.view g.C.Scratch.view g.O.Sink.view (Ok c.args.op) in
    let first = devices c.args.tree.now c.args.scratch c.args.out.now in
    let here = devices c.loop.tree c.loop.kept c.loop.out in
    let there = devices c.run_op-why.new.tree c.run_op-why.result.1 c.run_op-why.new.out in
    let why = c.run_op-why.result.0 in
    let run = one_runs g.T.Tree.view g.C.Scratch.view g.O.Sink.view here there c.args.op why why refl c.run_op-why.ensures.carries c.run_op-why.ensures.scratch in record {
      runs = stops_here R 9999 first here c.loop.counter c.loop-test.true there why c.behind_some.result c.behind_some.ensures c.in_default.not-Done run c.loop.invariant.runs;
      rest = g.met.O.Sink.rest_both _ _ _ c.loop.invariant.rest c.run_op-why.ensures.rest;
    }

pub returns : goal.returns
returns g c = record {
  runs = ends_here (OneRuns g.T.Tree.view g.C.Scratch.view g.O.Sink.view (Ok c.args.op)) 9999 (devices c.args.tree.now c.args.scratch c.args.out.now) (devices c.loop.tree c.loop.kept c.loop.out) c.loop.counter c.loop-test.false c.loop.invariant.runs;
  rest = c.loop.invariant.rest;
}
