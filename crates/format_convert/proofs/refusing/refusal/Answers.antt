use Rattle.std.proofs.Common.{◌≡◌, sym, ◌∙◌}
use Rattle.patch_set.specs.SetView.{plain_patches}
use Rattle.cli_tool_words.specs.PlainJobs.{plain_filter_job}
use Rattle.format_convert.specs.Taken.{left_patches}
use Rattle.format_convert.proofs.ConvertLemmas.{fitting, lacking, unfitting}
use Rattle.format_convert.proofs.refusing.refusal.Goals as goal

pub returns-in-Some : goal.returns-in-Some
returns-in-Some c = lacking c.args.form (left_patches (plain_filter_job c.args.job.now) (plain_patches c.args.set.now)) c.in-Some.line (sym c.in-Some.is ∙ c.first_without_context.ensures)

pub returns-in-Some-first_unfit : goal.returns-in-Some-first_unfit
returns-in-Some-first_unfit c = unfitting c.args.form (left_patches (plain_filter_job c.args.job.now) (plain_patches c.args.set.now)) c.in-Some-first_unfit.line (sym c.in_default.is ∙ c.first_without_context.ensures) (sym c.in-Some-first_unfit.is ∙ c.first_unfit.ensures)

pub returns-in-None : goal.returns-in-None
returns-in-None c = fitting c.args.form (left_patches (plain_filter_job c.args.job.now) (plain_patches c.args.set.now)) (sym c.in_default.is ∙ c.first_without_context.ensures) (sym c.in-None.is ∙ c.first_unfit.ensures)
