use Rattle.std.proofs.Common.{map, string_bytes}
use Rattle.cli_stack.specs.InTurn.{devices}
use Rattle.cli_stack.specs.Jobs.{all_of, job_of}
use Rattle.cli_stack.proofs.Turning.{none_runs, runs_asked}
use Rattle.cli_stack.proofs.turns.run_stack.Goals as goal

pub returns-in-Err : goal.returns-in-Err
returns-in-Err g c =
    let words = map string_bytes c.args.words.now in record {
      runs = none_runs g.T.Tree.view g.C.Scratch.view g.O.Sink.view (devices c.args.tree.now c.args.scratch c.args.out.now) (all_of words) (job_of words) c.in-Err.why c.in-Err.ensures.refused;
      rest = g.met.O.Sink.rest_none c.args.out.now;
    }

pub returns-in-Ok : goal.returns-in-Ok
returns-in-Ok g c =
    let words = map string_bytes c.args.words.now in record {
      runs = runs_asked g.T.Tree.view g.C.Scratch.view g.O.Sink.view (devices c.args.tree.now c.args.scratch c.args.out.now) (devices c.run_job.new.tree c.run_job.result.1 c.run_job.new.out) (all_of words) c.in-Ok.job.all (job_of words) c.in-Ok.job.op c.run_job.result.0
          c.in-Ok.ensures.all c.in-Ok.ensures.op c.run_job.ensures.runs;
      rest = c.run_job.ensures.rest;
    }
