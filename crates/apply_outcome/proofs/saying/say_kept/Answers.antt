use Rattle.std.proofs.Common.{sym, ap, Ok, [], if◌then◌else◌}
use Rattle.say_text.specs.Messages.{not_deleting_line}
use Rattle.outside.proofs.Writing.{writes_is, writes_none}
use Rattle.apply_outcome.specs.Outcome.{is_kept}
use Rattle.apply_task.specs.Contexts.{shown}
use Rattle.apply_outcome.specs.ContextView.{plain_context}
use Rattle.apply_outcome.proofs.Telling.{where_true}
use Rattle.outside.specs.SinkView.{sink_passes_none}
use Rattle.std.proofs.lemmas.Bool.{false≢true}
use Rattle.apply_outcome.proofs.saying.say_kept.Goals as goal

pub returns-then-is_kept : goal.returns-then-is_kept
returns-then-is_kept g c = record {
  writes = λ x side is.
      where_true c.say_not_deleting.result (is_kept (plain_context c.args.turn.now) x) (not_deleting_line (shown c.args.target.now)) (sym (c.if-is_kept.ensures x side is))
      (writes_is c.say_not_deleting.result (not_deleting_line (shown c.args.target.now)) c.say_not_deleting.ensures.writes (ap not_deleting_line c.shown.ensures));
  rest = c.say_not_deleting.ensures.rest;
  call = c.say_not_deleting.ensures.writes.call;
}

pub returns-else-is_kept : goal.returns-else-is_kept
returns-else-is_kept g c = record {
  rest = g.met.O.Sink.rest_none _;
  call = record { passes = sink_passes_none _; cause = λ err. absurd (false≢true err) };
  writes = λ x side is. writes_is (Ok tt) _ (writes_none (g.O.Sink.view c.args.out.now) tt) (sym (ap (λ b. if b then not_deleting_line (shown c.args.target.now) else []) (sym (c.if-is_kept.ensures x side is))));
}
