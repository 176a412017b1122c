use Rattle.cli_run_answers.proofs.Writes.{writes_part}
use Rattle.patch_run.proofs.Written.{writes_whole}
use Rattle.patchkit.proofs.run_tool.run_making.Goals as goal

pub returns-clause-err_part : goal.returns-clause-err_part
returns-clause-err_part g c = writes_part (g.E.Sink.view c.args.err.now) (g.E.Sink.view c.report-reported.new.err) c.report-reported.result _ c.report-reported.ensures.writes

pub returns-clause-err_whole : goal.returns-clause-err_whole
returns-clause-err_whole g c = writes_whole (g.E.Sink.view c.args.err.now) (g.E.Sink.view c.report-reported.new.err) c.report-reported.result _ c.report-reported.ensures.writes
