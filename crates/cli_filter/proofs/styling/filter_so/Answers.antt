use Rattle.std.proofs.Common.{◌∙◌, sym}
use Rattle.cli_tool_words.specs.PlainJobs.{plain_filter_job}
use Rattle.patch_filters.specs.Told.{asks_told}
use Rattle.filter_whole_text.specs.Sifting.{HasTextCause}
use Rattle.cli_filter.specs.Outcomes.{told_outcome, untold_filter}
use Rattle.cli_filter.proofs.Styled.{sifts-told, sifts-untold}
use Rattle.cli_filter.proofs.styling.filter_so.Goals as goal

pub returns-then-asks_told : goal.returns-then-asks_told
returns-then-asks_told g c = record {
  sifts = let j = plain_filter_job c.args.job.now in
      sifts-told j.input j.select (HasTextCause j.select.skip_binary) ⊥ (told_outcome j) (untold_filter j) _ _ _ _ _ _ c.filter_told.result (asks_told j) (sym c.asks_told.ensures ∙ c.if-asks_told.true) c.filter_told.ensures.sifts;
  unread = c.filter_told.ensures.unread;
  rest = c.filter_told.ensures.rest;
}

pub returns : goal.returns
returns g c = record {
  sifts = let j = plain_filter_job c.args.job.now in
      sifts-untold j.input j.select (HasTextCause j.select.skip_binary) ⊥ (told_outcome j) (untold_filter j) _ _ _ _ _ _ c.filter_untold.result (asks_told j) (sym c.asks_told.ensures ∙ c.if-asks_told.false) c.filter_untold.ensures.sifts;
  unread = c.filter_untold.ensures.unread;
  rest = c.filter_untold.ensures.rest;
}
