use Rattle.std.proofs.Common.{refl, subst}
use Rattle.cli_tool_words.specs.PlainJobs.{plain_filter_job, plain_style}
use Rattle.filter_style.specs.Memory.{memory_view}
use Rattle.filter_style.specs.Styled.{restyled}
use Rattle.filter_whole_text.specs.Sifting.{HasTextCause}
use Rattle.cli_filter.specs.Outcomes.{filter_outcome}
use Rattle.cli_filter.specs.Styling.{PutsText}
use Rattle.cli_filter.proofs.Styled.{sifts-fault, sifts-on}
use Rattle.cli_filter.proofs.styling.filter_restyled.Goals as goal

pub returns-in-Ok : goal.returns-in-Ok
returns-in-Ok g c =
    let j = plain_filter_job c.args.job.now in
    let text = c.run_filter.new.out.bytes.items in
    let x = c.args.out.now in
    let y = c.put_restyled.new.out in
    let put : PutsText g.O.Sink.view g.O.Sink.same_rest x y c.put_restyled.result (restyled j.style text) =
    subst (λ s. PutsText g.O.Sink.view g.O.Sink.same_rest x y c.put_restyled.result (restyled (plain_style s) text)) c.run_filter.ensures.style c.put_restyled.ensures in
    record {
      sifts = sifts-on j.input j.select (HasTextCause j.select.skip_binary) ⊥ j.style (filter_outcome j) _ _ _ _ text (memory_view c.new-memory.result) (memory_view c.run_filter.new.out)
          (g.O.Sink.view x) (g.O.Sink.view y) c.put_restyled.result c.new-memory.ensures refl c.in-Ok.ensures.sifts put.passes put.received put.failed put.cause;
      unread = c.run_filter.ensures.unread;
      rest = put.rest;
    }

pub returns-in-Err : goal.returns-in-Err
returns-in-Err g c = record {
  sifts = let j = plain_filter_job c.args.job.now in
      rw c.in_memory.ensures
      (sifts-fault j.input j.select (HasTextCause j.select.skip_binary) ⊥ j.style (filter_outcome j) _ _ _ _ c.in-Err.fault (memory_view c.new-memory.result) (memory_view c.run_filter.new.out)
      (g.O.Sink.view c.args.out.now) c.in-Err.ensures.sifts);
  unread = c.run_filter.ensures.unread;
  rest = g.met.O.Sink.rest_none c.args.out.now;
}
