use Rattle.std.proofs.Common.{◌∙◌, length, ap}
use Rattle.cli_tool_words.specs.PlainJobs.{plain_filter_job}
use Rattle.filter_choice.proofs.Rows.{kept-long}
use Rattle.patch_filters.proofs.all_told.put_told_taken.Goals as goal

pub put_told_kept-done-requires-clause-flags : goal.put_told_kept-done-requires-clause-flags
put_told_kept-done-requires-clause-flags c = ap length (c.deref.ensures.value ∙ c.in_ok-flags.ensures) ∙ kept-long (plain_filter_job c.args.job.now) c.args.set.now.text c.args.row.now.change
