use Rattle.std.proofs.Common.{refl}
use Rattle.cli_tool_words.specs.PlainJobs.{plain_filter_job, plain_select}
use Rattle.cli_filter.proofs.InForm.{forms-unopened, forms-over}
use Rattle.cli_filter.proofs.converting.run_convert.Goals as goal

pub returns-in-Err : goal.returns-in-Err
returns-in-Err g c = record {
  forms = forms-unopened c.args.form (plain_filter_job c.args.job.now) (plain_select c.open_text.new.select) _ _ _ _ c.in-Err.fault _ c.in-Err.ensures.opens;
  style = refl;
  unread = c.open_text.ensures.unread;
  rest = g.met.O.Sink.rest_none c.args.out.now;
}

pub returns-in-Ok : goal.returns-in-Ok
returns-in-Ok g c = record {
  forms = rw c.form_answer-answer.ensures
      (forms-over c.args.form (plain_filter_job c.args.job.now) (plain_select c.open_text.new.select) _ _ _ _
      g.O.Sink.view g.O.Sink.same_rest c.args.out.now c.put_converted.new.out c.in-Ok.opened c.put_converted.result c.in-Ok.ensures.opens c.in-Ok.ensures.read c.put_converted.ensures.converts c.put_converted.ensures.none);
  style = refl;
  unread = c.open_text.ensures.unread;
  rest = c.put_converted.ensures.rest;
}
