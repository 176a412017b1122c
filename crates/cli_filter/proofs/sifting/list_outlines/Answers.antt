use Rattle.cli_tool_words.specs.PlainJobs.{plain_list_job, plain_select}
use Rattle.patch_filters.specs.Listed.{listed}
use Rattle.filter_whole_text.specs.Outcomes.{IsOutcomeOf}
use Rattle.cli_filter.specs.Outcomes.{list_outcome, list_with}
use Rattle.filter_choice.specs.Outlined.{outlined}
use Rattle.filter_whole_text.specs.Opened.{IsOutlineOf}
use Rattle.cli_filter.proofs.Coming.{listed-is}
use Rattle.cli_filter.proofs.Written.{sifts-unopened, sifts-over}
use Rattle.cli_filter.proofs.sifting.list_outlines.Goals as goal

pub returns-in-Err : goal.returns-in-Err
returns-in-Err g c = record {
  sifts = let j = plain_list_job c.args.job in
      sifts-unopened IsOutlineOf j.input j.select (plain_select c.open_outline.new.select) ⊥ (λ s v. listed (list_with j s) (outlined v)) (IsOutcomeOf (list_outcome j)) (listed-is j c.requires) _ _ _ _ c.in-Err.fault _ c.in-Err.ensures.opens;
  unread = c.open_outline.ensures.unread;
  rest = g.met.O.Sink.rest_none c.args.out.now;
}

pub returns-in-Ok : goal.returns-in-Ok
returns-in-Ok g c = record {
  sifts = let j = plain_list_job c.args.job in
      rw c.sink_answer-answer.ensures
      (sifts-over IsOutlineOf j.input j.select (plain_select c.open_outline.new.select) ⊥ (λ s v. listed (list_with j s) (outlined v)) (IsOutcomeOf (list_outcome j)) (listed-is j c.requires) _ _ _ _
      g.O.Sink.view c.args.out.now c.put_listed.new.out c.in-Ok.opened c.put_listed.result c.in-Ok.ensures.opens c.put_listed.ensures.writes c.put_listed.ensures.none);
  unread = c.open_outline.ensures.unread;
  rest = c.put_listed.ensures.rest;
}
