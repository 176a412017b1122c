use Rattle.cli_tool_words.specs.PlainJobs.{plain_filter_job, plain_select}
use Rattle.patch_filters.specs.Told.{told}
use Rattle.filter_whole_text.specs.Opened.{IsSet}
use Rattle.filter_whole_text.specs.Outcomes.{IsOutcomeOf}
use Rattle.cli_filter.specs.Outcomes.{filter_with, told_outcome}
use Rattle.cli_filter.proofs.Coming.{told-is}
use Rattle.cli_filter.proofs.Written.{sifts-text, sifts-unopened}
use Rattle.cli_filter.proofs.styling.filter_told.Goals as goal

pub returns-in-Err : goal.returns-in-Err
returns-in-Err g c = record {
  sifts = let j = plain_filter_job c.args.job.now in
      sifts-unopened IsSet j.input j.select (plain_select c.open_text.new.select) ⊥ (λ s v. told (filter_with j s) v) (IsOutcomeOf (told_outcome j)) (told-is j) _ _ _ _ c.in-Err.fault _ c.in-Err.ensures.opens;
  unread = c.open_text.ensures.unread;
  rest = g.met.O.Sink.rest_none c.args.out.now;
}

pub returns-in-Ok : goal.returns-in-Ok
returns-in-Ok g c = record {
  sifts = let j = plain_filter_job c.args.job.now in
      sifts-text IsSet j.input j.select (plain_select c.open_text.new.select) ⊥ (λ s v. told (filter_with j s) v) (IsOutcomeOf (told_outcome j)) (told-is j) _ _ _ _
      g.O.Sink.view g.O.Sink.same_rest c.args.out.now c.put_told-answer.new.out c.in-Ok.opened c.put_told-answer.result c.in-Ok.ensures.opens c.put_told-answer.ensures.puts c.put_told-answer.ensures.none;
  unread = c.open_text.ensures.unread;
  rest = c.put_told-answer.ensures.rest;
}
