use Rattle.std.proofs.Common.{Bool, sym, ap, ◌∙◌, if◌then◌else◌, []}
use Rattle.outside.specs.SinkView.{Writes}
use Rattle.outside.proofs.Writing.{writes_is, writes_none}
use Rattle.patch_options.specs.PlainJob.{plain_options}
use Rattle.apply_start.specs.Skipping.{changes_said}
use Rattle.apply_start.proofs.skipping.tell_skipped.Goals as goal

pub returns-then-not-task : goal.returns-then-not-task
returns-then-not-task g c = record {
  writes = (
      let said = changes_said (plain_options c.args.task.now.options.now) c.args.task.now.set.now.skipped in
      writes_is _ _ (writes_none _ _) (sym (ap (λ (b : Bool). if b then said else []) c.if-not-task.true)));
  rest = g.met.O.Sink.rest_none _;
}

pub returns : goal.returns
returns g c = record {
  writes = (
      let o = plain_options c.args.task.now.options.now in
      let said = changes_said o c.args.task.now.set.now.skipped in
      let wrote : Writes (g.O.Sink.view c.args.out.now) (g.O.Sink.view c.put_changes.new.out) c.put_changes.result (changes_said o c.skipped.result.now) =
      record { call = c.put_changes.ensures.call; received = c.put_changes.ensures.received; failed = c.put_changes.ensures.failed } in
      writes_is _ _ wrote
      (ap (changes_said o) c.skipped.ensures.skipped ∙ sym (ap (λ (b : Bool). if b then said else []) c.if-not-task.false)));
  rest = c.put_changes.ensures.rest;
}
