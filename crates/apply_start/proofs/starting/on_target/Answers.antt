use Rattle.std.proofs.Common.{Bool, if◌then◌else◌, length, sym, ◌∙◌, ap, subst, None}
use Rattle.std.proofs.lemmas.Result.{IfOk-weaker}
use Rattle.name_choice.specs.Choice.{side_of}
use Rattle.apply_task.specs.TaskView.{plain_task}
use Rattle.apply_task.specs.Kinds.{is_meant_subject}
use Rattle.apply_start.specs.Start.{on_target, on_meant, unmeant_said, skips_at}
use Rattle.apply_start.specs.Starting.{IsWithin}
use Rattle.apply_start.proofs.StartSteps.{starts_is, starts_skips}
use Rattle.apply_start.proofs.starting.on_target.Goals as goal

pub returns-then-is_meant : goal.returns-then-is_meant
returns-then-is_meant g c = record {
  starts = (
      let t = plain_task c.args.task.now in
      let place = c.args.place in
      let meant = sym (c.is_meant.ensures ∙ ap is_meant_subject c.subject_of.ensures) ∙ c.if-is_meant.true in
      starts_is c.on_meant.result (λ f. on_target t f place) c.on_meant.ensures.starts
      (λ f told. sym (ap (λ (b : Bool). if b then on_meant t f place else skips_at (unmeant_said t place) place (side_of t.options.reverse) None) meant)));
  rest = c.on_meant.ensures.rest;
  within = c.on_meant.ensures.within;
}

pub returns-else-is_meant : goal.returns-else-is_meant
returns-else-is_meant g c = record {
  starts = (
      let t = plain_task c.args.task.now in
      let place = c.args.place in
      let e = c.on_unmeant.ensures in
      let unmeant = sym (c.is_meant.ensures ∙ ap is_meant_subject c.subject_of.ensures) ∙ c.if-is_meant.false in
      starts_is c.on_unmeant.result (λ f. on_target t f place) (starts_skips _ _ c.on_unmeant.result _ e.writes e.fault e.row)
      (λ f told. sym (ap (λ (b : Bool). if b then on_meant t f place else skips_at (unmeant_said t place) place (side_of t.options.reverse) None) unmeant)));
  rest = c.on_unmeant.ensures.rest;
  within = IfOk-weaker c.on_unmeant.result _ _ (λ d is. subst (IsWithin (length c.args.task.now.patch.now.targets.items)) (sym is) tt) c.on_unmeant.ensures.row;
}

pub on_meant-requires-clause-within : goal.on_meant-requires-clause-within
on_meant-requires-clause-within g c = c.requires.within

pub on_meant-requires-clause-task : goal.on_meant-requires-clause-task
on_meant-requires-clause-task g c = c.requires.task

pub on_meant-requires-clause-size : goal.on_meant-requires-clause-size
on_meant-requires-clause-size g c = c.requires.size

pub on_meant-requires-clause-there : goal.on_meant-requires-clause-there
on_meant-requires-clause-there g c = c.requires.there
