use Rattle.std.proofs.Common.{Ok, true, false, refl}
use Rattle.cli_stack.specs.InTurn.{OneRuns, devices}
use Rattle.cli_stack.proofs.Turning.{one_runs, runs_if}
use Rattle.cli_stack.proofs.turns.run_job.Goals as goal

pub returns-then-job : goal.returns-then-job
returns-then-job g c = record {
  runs = runs_if (OneRuns g.T.Tree.view g.C.Scratch.view g.O.Sink.view (Ok c.args.job.op)) c.args.job.all true (devices c.args.tree.now c.args.scratch c.args.out.now) (devices c.run_all.new.tree c.run_all.result.1 c.run_all.new.out) c.run_all.result.0
      c.if-job.true c.run_all.ensures.runs;
  rest = c.run_all.ensures.rest;
}

pub returns-else-job : goal.returns-else-job
returns-else-job g c =
    let first = devices c.args.tree.now c.args.scratch c.args.out.now in
    let there = devices c.run_op.new.tree c.run_op.result.1 c.run_op.new.out in record {
      runs = runs_if (OneRuns g.T.Tree.view g.C.Scratch.view g.O.Sink.view (Ok c.args.job.op)) c.args.job.all false first there c.run_op.result.0 c.if-job.false
          (one_runs g.T.Tree.view g.C.Scratch.view g.O.Sink.view first there c.args.job.op c.run_op.result.0 c.run_op.result.0 refl c.run_op.ensures.carries c.run_op.ensures.scratch);
      rest = c.run_op.ensures.rest;
    }
