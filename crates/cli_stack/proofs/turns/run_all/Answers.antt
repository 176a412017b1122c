use Rattle.std.proofs.Common.{inl, inr, refl}
use Rattle.cli_run_answers.specs.declared.why.Why.TheVariants.{Done}
use Rattle.cli_stack.specs.InTurn.{devices}
use Rattle.cli_stack.proofs.Turning.{one_runs}
use Rattle.cli_stack.proofs.turns.run_all.Goals as goal

pub returns-in-Done : goal.returns-in-Done
returns-in-Done g c =
    let first = devices c.args.tree.now c.args.scratch c.args.out.now in
    let there = devices c.run_op-why.new.tree c.run_op-why.result.1 c.run_op-why.new.out in record {
      runs = inr (there, one_runs g.T.Tree.view g.C.Scratch.view g.O.Sink.view first there c.args.op c.run_op-why.result.0 Done c.in-Done.is c.run_op-why.ensures.carries c.run_op-why.ensures.scratch, c.run_more.ensures.runs);
      rest = g.met.O.Sink.rest_both _ _ _ c.run_op-why.ensures.rest c.run_more.ensures.rest;
    }

pub returns-in_default : goal.returns-in_default
returns-in_default g c =
    let first = devices c.args.tree.now c.args.scratch c.args.out.now in
    let there = devices c.run_op-why.new.tree c.run_op-why.result.1 c.run_op-why.new.out in record {
      runs = inl (c.in_default.not-Done, one_runs g.T.Tree.view g.C.Scratch.view g.O.Sink.view first there c.args.op c.run_op-why.result.0 c.run_op-why.result.0 refl c.run_op-why.ensures.carries c.run_op-why.ensures.scratch);
      rest = c.run_op-why.ensures.rest;
    }
