use Rattle.std.proofs.Common.{sym, ◌∙◌}
use Rattle.cli_tool_words.specs.PlainJobs.{plain_filter_job}
use Rattle.cli_filter.specs.Converting.{convert_outcome}
use Rattle.cli_filter.proofs.Styled.{forms-plain}
use Rattle.cli_filter.proofs.styling.convert_so.Goals as goal

pub returns-then-is_plain : goal.returns-then-is_plain
returns-then-is_plain g c = record {
  forms = let j = plain_filter_job c.args.job.now in
      forms-plain c.args.form j j.style (convert_outcome c.args.form j) _ _ _ _ (sym c.is_plain.ensures ∙ c.if-is_plain.true) _ _ c.run_convert.result c.run_convert.ensures.forms;
  unread = c.run_convert.ensures.unread;
  rest = c.run_convert.ensures.rest;
}
