use Rattle.cli_tool_words.specs.PlainJobs.{plain_list_job, plain_select}
use Rattle.patch_filters.specs.Listed.{listed_whole}
use Rattle.filter_whole_text.specs.Outcomes.{IsOutcomeOf}
use Rattle.cli_filter.specs.Outcomes.{list_outcome, list_with}
use Rattle.filter_whole_text.specs.Opened.{IsSet}
use Rattle.cli_filter.proofs.Coming.{whole-is}
use Rattle.cli_filter.proofs.Written.{sifts-unopened, sifts-over}
use Rattle.cli_filter.proofs.sifting.list_wholes.Goals as goal

pub returns-in-Err : goal.returns-in-Err
returns-in-Err g c = record {
  sifts = let j = plain_list_job c.args.job in
      sifts-unopened IsSet j.input j.select (plain_select c.open_text.new.select) ⊥ (λ s v. listed_whole (list_with j s) v) (IsOutcomeOf (list_outcome j)) (whole-is j c.requires) _ _ _ _ c.in-Err.fault _ c.in-Err.ensures.opens;
  unread = c.open_text.ensures.unread;
  rest = g.met.O.Sink.rest_none c.args.out.now;
}

pub returns-in-Ok : goal.returns-in-Ok
returns-in-Ok g c = record {
  sifts = let j = plain_list_job c.args.job in
      rw c.sink_answer-answer.ensures
      (sifts-over IsSet j.input j.select (plain_select c.open_text.new.select) ⊥ (λ s v. listed_whole (list_with j s) v) (IsOutcomeOf (list_outcome j)) (whole-is j c.requires) _ _ _ _
      g.O.Sink.view c.args.out.now c.put_whole.new.out c.in-Ok.opened c.put_whole.result c.in-Ok.ensures.opens c.put_whole.ensures.writes c.put_whole.ensures.none);
  unread = c.open_text.ensures.unread;
  rest = c.put_whole.ensures.rest;
}
