use Rattle.std.proofs.Common.{◌∙◌, ◌++◌, List, ℕ, [], refl, sym, ap, subst, length}
use Rattle.outside.specs.SinkView.{sink_passes_none, Receives}
use Rattle.outside.proofs.Writing.{received_none}
use Rattle.patch_options.specs.PlainJob.{plain_options}
use Rattle.say_text.specs.Messages.{silenced, prereq_line}
use Rattle.apply_start.specs.Start.{skips_at, on_direction, on_prereq, prereq_said}
use Rattle.apply_task.specs.TaskView.{plain_task}
use Rattle.apply_start.proofs.Deciding.{weighs_fails, weighs_stops, weighs_after, weighs_decides, prereq-stops, prereq-suits, prereq-warns, prereq-speaks, behind_prereq}
use Rattle.outside.proofs.Exits.{if_ok_none}
use Rattle.apply_start.specs.Starting.{IsUnbarred, IsWithin}
use Rattle.apply_start.proofs.prereq_and_reversal.check_prereq_and_reversal.Goals as goal

pub returns-then-not-branch : goal.returns-then-not-branch
returns-then-not-branch g c = record {
  weighs = (
      weighs_after c.args.there c.direct.result [] (λ bytes. on_direction (plain_task c.args.task.now) c.args.place bytes c.args.was_turned c.args.side) (λ bytes. on_prereq (plain_task c.args.task.now) c.args.place bytes c.args.was_turned c.args.side)
      c.in_ok-lacks_word.ensures.keeps (sink_passes_none (g.O.Sink.view c.args.out.now)) (received_none (g.O.Sink.view c.args.out.now)) c.direct.ensures.weighs
      (λ bytes holds. prereq-suits (plain_task c.args.task.now) c.args.place bytes c.args.was_turned c.args.side
      (sym (c.in_ok-lacks_word.ensures.value bytes holds) ∙ c.if-not-branch.true)));
  rest = c.direct.ensures.rest;
  within = c.direct.ensures.within;
}

pub returns-then-task : goal.returns-then-task
returns-then-task g c = record {
  weighs = (
      weighs_after c.args.there c.direct-then-task.result (prereq_said (plain_task c.args.task.now)) (λ bytes. on_direction (plain_task c.args.task.now) c.args.place bytes c.args.was_turned c.args.side) (λ bytes. on_prereq (plain_task c.args.task.now) c.args.place bytes c.args.was_turned c.args.side)
      c.in_ok-lacks_word.ensures.keeps c.in_ok-say_prereq.ensures.writes.call.passes
      (subst (λ (word : List ℕ). Receives (g.O.Sink.view c.args.out.now) (g.O.Sink.view c.say_prereq.new.out) (silenced (plain_options c.args.task.now.options.now) (prereq_line c.args.task.now.options.now.force word))) c.prereq_word.ensures c.in_ok-say_prereq.ensures.writes.received)
      c.direct-then-task.ensures.weighs
      (λ bytes holds. prereq-warns (plain_task c.args.task.now) c.args.place bytes c.args.was_turned c.args.side
      (sym (c.in_ok-lacks_word.ensures.value bytes holds) ∙ c.if-not-branch.false) c.if-task.true));
  rest = g.met.O.Sink.rest_both _ _ _ c.in_ok-say_prereq.ensures.rest c.direct-then-task.ensures.rest;
  within = c.direct-then-task.ensures.within;
}

pub returns-else-task : goal.returns-else-task
returns-else-task g c = record {
  weighs = (
      let t = plain_task c.args.task.now in
      weighs_decides c.args.there c.skip_at.result (prereq_said t) (λ bytes. on_prereq t c.args.place bytes c.args.was_turned c.args.side) (λ bytes. skips_at (prereq_said t) c.args.place c.args.side bytes)
      (subst IsUnbarred (sym c.skip_at.ensures) tt) c.in_ok-lacks_word.ensures.keeps c.in_ok-say_prereq.ensures.writes.call.passes
      (subst (λ (word : List ℕ). Receives (g.O.Sink.view c.args.out.now) (g.O.Sink.view c.say_prereq.new.out) (silenced (plain_options c.args.task.now.options.now) (prereq_line c.args.task.now.options.now.force word))) c.prereq_word.ensures c.in_ok-say_prereq.ensures.writes.received)
      (λ bytes. refl) (λ bytes holds. c.skip_at.ensures)
      (λ bytes holds. prereq-stops t c.args.place bytes c.args.was_turned c.args.side (sym (c.in_ok-lacks_word.ensures.value bytes holds) ∙ c.if-not-branch.false) c.if-task.false));
  within = subst (IsWithin (length c.args.task.now.patch.now.targets.items)) (sym c.skip_at.ensures) tt;
  rest = c.in_ok-say_prereq.ensures.rest;
}

pub returns-in_err-say_prereq : goal.returns-in_err-say_prereq
returns-in_err-say_prereq g c = record {
  weighs = (
      weighs_stops c.args.there c.in_err-say_prereq.field-0.0 c.from_residual-in_err-say_prereq.result (λ bytes. on_prereq (plain_task c.args.task.now) c.args.place bytes c.args.was_turned c.args.side)
      (λ bytes. behind_prereq (plain_task c.args.task.now) c.args.place bytes c.args.was_turned c.args.side)
      c.from_residual-in_err-say_prereq.ensures.1 c.in_ok-lacks_word.ensures.keeps c.in_err-say_prereq.ensures.writes
      (λ bytes holds.
      prereq-speaks (plain_task c.args.task.now) c.args.place bytes c.args.was_turned c.args.side
      (sym (c.in_ok-lacks_word.ensures.value bytes holds) ∙ c.if-not-branch.false)
      ∙ ap (λ (word : List ℕ). silenced (plain_options c.args.task.now.options.now) (prereq_line c.args.task.now.options.now.force word) ++ behind_prereq (plain_task c.args.task.now) c.args.place bytes c.args.was_turned c.args.side) (sym c.prereq_word.ensures)));
  rest = c.in_err-say_prereq.ensures.rest;
  within = if_ok_none _ _ c.from_residual-in_err-say_prereq.result c.from_residual-in_err-say_prereq.ensures.1;
}

pub returns-in_err-lacks_word : goal.returns-in_err-lacks_word
returns-in_err-lacks_word g c = record {
  weighs = (
      weighs_fails c.args.there c.in_err-lacks_word.field-0.0 c.from_residual.result (λ bytes. on_prereq (plain_task c.args.task.now) c.args.place bytes c.args.was_turned c.args.side)
      c.from_residual.ensures.1 c.in_err-lacks_word.ensures.keeps c.in_err-lacks_word.ensures.cause);
  rest = g.met.O.Sink.rest_none _;
  within = if_ok_none _ _ c.from_residual.result c.from_residual.ensures.1;
}

pub direct-requires-then-task-clause-within : goal.direct-requires-then-task-clause-within
direct-requires-then-task-clause-within g c = c.requires.within

pub direct-requires-clause-within : goal.direct-requires-clause-within
direct-requires-clause-within g c = c.requires.within

pub direct-requires-then-task-clause-task : goal.direct-requires-then-task-clause-task
direct-requires-then-task-clause-task g c = c.requires.task

pub direct-requires-clause-task : goal.direct-requires-clause-task
direct-requires-clause-task g c = c.requires.task
