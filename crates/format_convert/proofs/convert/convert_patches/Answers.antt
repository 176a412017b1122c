use Rattle.std.proofs.Common.{sym, ◌∙◌}
use Rattle.patch_set.specs.SetView.{plain_patches}
use Rattle.cli_tool_words.specs.PlainJobs.{plain_filter_job}
use Rattle.format_convert.specs.Taken.{left_patches}
use Rattle.format_convert.specs.Converted.{converted}
use Rattle.format_convert.proofs.ConvertLemmas.{converts-cut, converts-done, converts-refused}
use Rattle.format_convert.proofs.convert.convert_patches.Goals as goal

pub returns-in-Some : goal.returns-in-Some
returns-in-Some g c =
    let j = plain_filter_job c.args.job.now in
    let v = c.args.set.now in
    converts-refused g.O.Sink.view g.O.Sink.same_rest c.args.form (left_patches j (plain_patches v)) (converted c.args.form j v) c.in-Some.fault c.args.out.now (g.met.O.Sink.rest_none c.args.out.now) (sym c.in-Some.is ∙ c.refusal.ensures)

pub returns-in-Ok : goal.returns-in-Ok
returns-in-Ok g c =
    let j = plain_filter_job c.args.job.now in
    let v = c.args.set.now in
    converts-done g.O.Sink.view g.O.Sink.same_rest c.args.form (left_patches j (plain_patches v)) (converted c.args.form j v) c.args.out.now c.put_converted.new.out _ (sym c.in_default.is ∙ c.refusal.ensures) c.in-Ok.ensures

pub returns-in-Err : goal.returns-in-Err
returns-in-Err g c =
    let j = plain_filter_job c.args.job.now in
    let v = c.args.set.now in
    converts-cut g.O.Sink.view g.O.Sink.same_rest c.args.form (left_patches j (plain_patches v)) (converted c.args.form j v) c.args.out.now c.put_converted.new.out _ (sym c.in_default.is ∙ c.refusal.ensures) c.in-Err.ensures
