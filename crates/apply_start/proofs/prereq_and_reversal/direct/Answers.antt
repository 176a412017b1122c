use Rattle.std.proofs.Common.{◌∙◌, [], true, false, refl, sym, ap, length, subst}
use Rattle.std.proofs.lemmas.List.{append-nil}
use Rattle.outside.specs.SinkView.{sink_passes_none}
use Rattle.outside.proofs.Writing.{received_none}
use Rattle.hunk_core.specs.Turned.{other_side}
use Rattle.patch_options.specs.PlainJob.{plain_options}
use Rattle.say_text.specs.Messages.{silenced, reversed_line}
use Rattle.apply_start.specs.Start.{tries, skips_at, on_direction, lines_in}
use Rattle.apply_task.specs.TaskView.{plain_task}
use Rattle.apply_start.proofs.Deciding.{weighs_fails, weighs_stops, weighs_decides, direction-said, direction-kept, direction-over}
use Rattle.outside.proofs.Exits.{if_ok_none}
use Rattle.apply_start.specs.declared.starting.Decision.TheVariants.{Try}
use Rattle.apply_start.specs.Starting.{IsUnbarred, IsWithin}
use Rattle.apply_start.proofs.prereq_and_reversal.direct.Goals as goal

pub returns-in_err-is_reversed : goal.returns-in_err-is_reversed
returns-in_err-is_reversed g c = record {
  weighs = (
      weighs_fails c.args.there c.in_err-is_reversed.field-0.0 c.from_residual.result (λ bytes. on_direction (plain_task c.args.task.now) c.args.place bytes c.args.was_turned c.args.side)
      c.from_residual.ensures.1 c.in_err-is_reversed.ensures.keeps c.in_err-is_reversed.ensures.cause);
  rest = g.met.O.Sink.rest_none _;
  within = if_ok_none _ _ c.from_residual.result c.from_residual.ensures.1;
}

pub returns-in_err-say_reversed : goal.returns-in_err-say_reversed
returns-in_err-say_reversed g c = record {
  weighs = (
      weighs_stops c.args.there c.in_err-say_reversed.field-0.0 c.from_residual-in_err-say_reversed.result
      (λ bytes. on_direction (plain_task c.args.task.now) c.args.place bytes c.args.was_turned c.args.side) (λ bytes. [])
      c.from_residual-in_err-say_reversed.ensures.1 c.in_ok-is_reversed.ensures.keeps c.in_err-say_reversed.ensures.writes
      (λ bytes holds.
      direction-said (plain_task c.args.task.now) c.args.place bytes c.args.was_turned c.args.side c.if-task.false c.if-was_turned.false
      (sym (c.in_ok-is_reversed.ensures.value (lines_in bytes) holds.0) ∙ c.if-not-branch.false)
      ∙ ap (λ turned. silenced (plain_options c.args.task.now.options.now) (reversed_line turned)) (sym c.turns_round-is_turned.ensures)
      ∙ sym (append-nil (silenced (plain_options c.args.task.now.options.now) (reversed_line c.turns_round-is_turned.result)))));
  rest = c.in_err-say_reversed.ensures.rest;
  within = if_ok_none _ _ c.from_residual-in_err-say_reversed.result c.from_residual-in_err-say_reversed.ensures.1;
}

pub returns-then-task-clause-rest : goal.returns-then-task-clause-rest
returns-then-task-clause-rest g c = g.met.O.Sink.rest_none _

pub returns-then-task-clause-within : goal.returns-then-task-clause-within
returns-then-task-clause-within g c = c.requires.within

pub returns-then-not-branch : goal.returns-then-not-branch
returns-then-not-branch g c = record {
  rest = g.met.O.Sink.rest_none _;
  within = c.requires.within;
  weighs = (
      let t = plain_task c.args.task.now in
      weighs_decides c.args.there (Try c.args.place c.args.side) [] (λ bytes. on_direction t c.args.place bytes c.args.was_turned c.args.side) (λ bytes. tries [] c.args.place c.args.side)
      tt c.in_ok-is_reversed.ensures.keeps (sink_passes_none (g.O.Sink.view c.args.out.now)) (received_none (g.O.Sink.view c.args.out.now)) (λ bytes. refl) (λ bytes holds. (refl, holds.0))
      (λ bytes holds. direction-kept t c.args.place bytes c.args.was_turned c.args.side (sym (c.in_ok-is_reversed.ensures.value (lines_in bytes) holds.0) ∙ c.if-not-branch.true)));
}

pub returns-then-is_turned : goal.returns-then-is_turned
returns-then-is_turned g c = record {
  rest = c.in_ok-say_reversed.ensures.rest;
  within = c.requires.within;
  weighs = (
      let t = plain_task c.args.task.now in
      let options = plain_options c.args.task.now.options.now in
      weighs_decides c.args.there (Try c.args.place c.other-side.result) (silenced options (reversed_line c.turns_round-is_turned.result)) (λ bytes. on_direction t c.args.place bytes c.args.was_turned c.args.side)
      (λ bytes. tries (silenced options (reversed_line true)) c.args.place (other_side c.args.side))
      tt c.in_ok-is_reversed.ensures.keeps c.in_ok-say_reversed.ensures.writes.call.passes c.in_ok-say_reversed.ensures.writes.received (λ bytes. ap (λ turned. silenced options (reversed_line turned)) (sym c.if-is_turned.true))
      (λ bytes holds. (ap (Try c.args.place) c.other-side.ensures, holds.0))
      (λ bytes holds. direction-over t c.args.place bytes c.args.was_turned c.args.side true (sym c.turns_round-is_turned.ensures ∙ c.if-is_turned.true) c.if-task.false c.if-was_turned.false (sym (c.in_ok-is_reversed.ensures.value (lines_in bytes) holds.0) ∙ c.if-not-branch.false)));
}

pub returns-else-is_turned : goal.returns-else-is_turned
returns-else-is_turned g c = record {
  rest = c.in_ok-say_reversed.ensures.rest;
  weighs = (
      let t = plain_task c.args.task.now in
      let options = plain_options c.args.task.now.options.now in
      weighs_decides c.args.there c.skip_at.result (silenced options (reversed_line c.turns_round-is_turned.result)) (λ bytes. on_direction t c.args.place bytes c.args.was_turned c.args.side)
      (λ bytes. skips_at (silenced options (reversed_line false)) c.args.place c.args.side bytes)
      (subst IsUnbarred (sym c.skip_at.ensures) tt) c.in_ok-is_reversed.ensures.keeps c.in_ok-say_reversed.ensures.writes.call.passes c.in_ok-say_reversed.ensures.writes.received (λ bytes. ap (λ turned. silenced options (reversed_line turned)) (sym c.if-is_turned.false))
      (λ bytes holds. c.skip_at.ensures)
      (λ bytes holds. direction-over t c.args.place bytes c.args.was_turned c.args.side false (sym c.turns_round-is_turned.ensures ∙ c.if-is_turned.false) c.if-task.false c.if-was_turned.false (sym (c.in_ok-is_reversed.ensures.value (lines_in bytes) holds.0) ∙ c.if-not-branch.false)));
  within = subst (IsWithin (length c.args.task.now.patch.now.targets.items)) (sym c.skip_at.ensures) tt;
}

pub is_reversed-requires : goal.is_reversed-requires
is_reversed-requires g c = record { task = c.requires.task }
