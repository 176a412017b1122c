use Rattle.std.proofs.Common.{map, string_bytes}
use Rattle.cli_run_answers.proofs.Writes.{writes_part}
use Rattle.patch_run.proofs.Written.{writes_whole}
use Rattle.cli_stack.specs.InTurn.{OneRuns, devices}
use Rattle.cli_stack.specs.Jobs.{all_of, job_of}
use Rattle.patchkit.proofs.Ends.{ends_as}
use Rattle.patchkit.proofs.run_tool.run_stacking.Goals as goal

pub returns-clause-runs : goal.returns-clause-runs
returns-clause-runs g c =
    let words = map string_bytes c.args.words.now in
    ends_as (all_of words) (OneRuns g.T.Tree.view g.C.Scratch.view g.O.Sink.view (job_of words)) (devices c.args.tree.now c.args.scratch c.args.out.now) (devices c.run_stack-why.new.tree c.run_stack-why.result.1 c.run_stack-why.new.out)
    c.exit_of-exit.result.why c.run_stack-why.result.0 c.exit_of-exit.ensures.why c.run_stack-why.ensures.runs

pub returns-clause-err_part : goal.returns-clause-err_part
returns-clause-err_part g c = writes_part (g.E.Sink.view c.args.err.now) (g.E.Sink.view c.report-reported.new.err) c.report-reported.result _ c.report-reported.ensures.writes

pub returns-clause-err_whole : goal.returns-clause-err_whole
returns-clause-err_whole g c = writes_whole (g.E.Sink.view c.args.err.now) (g.E.Sink.view c.report-reported.new.err) c.report-reported.result _ c.report-reported.ensures.writes
