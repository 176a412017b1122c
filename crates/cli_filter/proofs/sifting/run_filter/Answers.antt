use Rattle.std.proofs.Common.{refl}
use Rattle.cli_tool_words.specs.PlainJobs.{plain_filter_job, plain_select}
use Rattle.patch_filters.specs.Digested.{filtered_digest}
use Rattle.filter_whole_text.specs.Outcomes.{IsOutcomeOf}
use Rattle.cli_filter.specs.Outcomes.{filter_outcome, filter_with}
use Rattle.filter_whole_text.specs.Opened.{IsDigestIn}
use Rattle.cli_filter.proofs.Coming.{filtered-is}
use Rattle.cli_filter.proofs.Written.{sifts-unopened, sifts-over}
use Rattle.cli_filter.proofs.sifting.run_filter.Goals as goal

pub returns-in-Err : goal.returns-in-Err
returns-in-Err g c = record {
  sifts = let j = plain_filter_job c.args.job.now in
      sifts-unopened IsDigestIn j.input j.select (plain_select c.open_digest.new.select) ⊥ (λ s v. filtered_digest (filter_with j s) v) (IsOutcomeOf (filter_outcome j)) (filtered-is j) _ _ _ _ c.in-Err.fault _ c.in-Err.ensures.opens;
  style = refl;
  unread = c.open_digest.ensures.unread;
  rest = g.met.O.Sink.rest_none c.args.out.now;
}

pub returns-in-Ok : goal.returns-in-Ok
returns-in-Ok g c = record {
  sifts = let j = plain_filter_job c.args.job.now in
      rw c.sink_answer-answer.ensures
      (sifts-over IsDigestIn j.input j.select (plain_select c.open_digest.new.select) ⊥ (λ s v. filtered_digest (filter_with j s) v) (IsOutcomeOf (filter_outcome j)) (filtered-is j) _ _ _ _
      g.O.Sink.view c.args.out.now c.put_filtered.new.out c.in-Ok.opened c.put_filtered.result c.in-Ok.ensures.opens c.put_filtered.ensures.writes c.put_filtered.ensures.none);
  style = refl;
  unread = c.open_digest.ensures.unread;
  rest = c.put_filtered.ensures.rest;
}
