use Rattle.std.proofs.Common.{refl, map, string_bytes}
use Rattle.cli_run_answers.specs.Reasons.{refusal_line}
use Rattle.cli_run_answers.proofs.Writes.{writes_part}
use Rattle.patchkit.proofs.Ends.{runs_as}
use Rattle.patch_run.proofs.Written.{writes_whole}
use Rattle.patchkit.proofs.run_tool.run_sifting.Goals as goal

pub returns-clause-runs : goal.returns-clause-runs
returns-clause-runs g c = runs_as c.exit_of-exit.result.why c.exit_of-exit.result.applied c.exit_of-exit.ensures.why c.exit_of-exit.ensures.applied (record {
  calls = c.run_filters.ensures.runs;
  scratch = refl;
  no_receipt = refl;
})

pub returns-clause-err_part : goal.returns-clause-err_part
returns-clause-err_part g c = writes_part (g.E.Sink.view c.args.err.now) (g.E.Sink.view c.report-reported.new.err) c.report-reported.result
    (refusal_line (map string_bytes c.args.words.now) c.exit_of-exit.result.why) c.report-reported.ensures.writes

pub returns-clause-err_whole : goal.returns-clause-err_whole
returns-clause-err_whole g c = writes_whole (g.E.Sink.view c.args.err.now) (g.E.Sink.view c.report-reported.new.err) c.report-reported.result
    (refusal_line (map string_bytes c.args.words.now) c.exit_of-exit.result.why) c.report-reported.ensures.writes
