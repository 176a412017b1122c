use Rattle.std.proofs.Common.{inl, inr, ⊎_elim, map, string_bytes}
use Rattle.patch_cli.specs.Command.{command}
use Rattle.cli_run_answers.specs.Reasons.{refusal_line}
use Rattle.cli_run_answers.proofs.Writes.{writes_part}
use Rattle.cli_run_answers.proofs.Names.{old_or_new}
use Rattle.patch_run.proofs.Written.{writes_whole}
use Rattle.patch_cli.proofs.Carrying.{carries_as, is_complete}
use Rattle.patch_cli.proofs.cli.run.Goals as goal

pub returns-clause-carries : goal.returns-clause-carries
returns-clause-carries g c = carries_as c.exit_of-exit.result.why c.exit_of-exit.result.applied c.exit_of-exit.ensures.why c.exit_of-exit.ensures.applied c.carry_out-ended.ensures.carries

pub returns-clause-complete : goal.returns-clause-complete
returns-clause-complete g c f left told tells none = is_complete c.exit_of-exit.result.why c.exit_of-exit.result.applied
    (carries_as c.exit_of-exit.result.why c.exit_of-exit.result.applied c.exit_of-exit.ensures.why c.exit_of-exit.ensures.applied c.carry_out-ended.ensures.carries) f left told tells none

pub returns-clause-names : goal.returns-clause-names
returns-clause-names g c f left told tells d since =
    let done = carries_as c.exit_of-exit.result.why c.exit_of-exit.result.applied c.exit_of-exit.ensures.why c.exit_of-exit.ensures.applied c.carry_out-ended.ensures.carries in
    ⊎_elim (λ entry. inl entry) (λ part. inr (old_or_new (command (map string_bytes c.args.words.now) f left).effects f d part)) (done.images f left told tells d since)

pub returns-clause-err_part : goal.returns-clause-err_part
returns-clause-err_part g c = writes_part (g.E.Sink.view c.args.err.now) (g.E.Sink.view c.report-reported.new.err) c.report-reported.result
    (refusal_line (map string_bytes c.args.words.now) c.exit_of-exit.result.why) c.report-reported.ensures.writes

pub returns-clause-err_whole : goal.returns-clause-err_whole
returns-clause-err_whole g c = writes_whole (g.E.Sink.view c.args.err.now) (g.E.Sink.view c.report-reported.new.err) c.report-reported.result
    (refusal_line (map string_bytes c.args.words.now) c.exit_of-exit.result.why) c.report-reported.ensures.writes
