use Rattle.std.proofs.Common.{sym, ◌∙◌}
use Rattle.cli_tool_words.specs.PlainJobs.{plain_filter_job}
use Rattle.filter_whole_text.specs.Sifting.{HasTextCause}
use Rattle.cli_filter.specs.Outcomes.{filter_outcome}
use Rattle.cli_filter.proofs.Styled.{sifts-plain}
use Rattle.cli_filter.proofs.styling.filter_untold.Goals as goal

pub returns-then-is_plain : goal.returns-then-is_plain
returns-then-is_plain g c = record {
  sifts = let j = plain_filter_job c.args.job.now in
      sifts-plain j.input j.select (HasTextCause j.select.skip_binary) ⊥ j.style (filter_outcome j) _ _ _ _ (sym c.is_plain.ensures ∙ c.if-is_plain.true) _ _ c.run_filter.result c.run_filter.ensures.sifts;
  unread = c.run_filter.ensures.unread;
  rest = c.run_filter.ensures.rest;
}
