use Rattle.std.proofs.Common.{◌≡◌, sym, ◌∙◌, ap, subst, length}
use Rattle.outside.specs.Files.{Files}
use Rattle.name_choice.specs.declared.Choice.{Choice}
use Rattle.name_choice.specs.declared.Choice.TheVariants.{Existing, Create, Nothing}
use Rattle.name_choice.specs.Choice.{IsWithin as IsAmong}
use Rattle.apply_task.specs.Contexts.{PlainContext, bytes_of}
use Rattle.apply_start.specs.Start.{on_choice, choice_of, own_start}
use Rattle.apply_task.specs.TaskView.{plain_task}
use Rattle.apply_start.proofs.StartSteps.{starts_after, starts_is, starts_lost, starts_skips}
use Rattle.std.proofs.lemmas.Result.{IfOk-weaker}
use Rattle.apply_start.specs.Starting.{IsPresent, IsWithin}
use Rattle.apply_start.proofs.starting.start_own.Goals as goal

-- once the choice is made
chosen : (t : PlainContext) (f : Files) (x y : Choice) → y ≡ choice_of t f → y ≡ x → on_choice t f x ≡ own_start t f
chosen t f x y is same = ap (λ (z : Choice). on_choice t f z) (sym same ∙ is)

pub returns-in-Existing : goal.returns-in-Existing
returns-in-Existing g c = record {
  starts = (
      let t = plain_task c.args.task.now in
      starts_is c.on_target.result (own_start t) (starts_after c.on_target.result c.choose_target.ensures.untouched c.on_target.ensures.starts)
      (λ f told. chosen t f (Existing c.in-Existing.place) c.in-Ok.choice (c.in-Ok.ensures.chosen f told.0) c.in-Existing.is));
  rest = c.on_target.ensures.rest;
  within = c.on_target.ensures.within;
}

pub returns-in-Create : goal.returns-in-Create
returns-in-Create g c = record {
  starts = (
      let t = plain_task c.args.task.now in
      starts_is c.on_target-in-Create.result (own_start t) (starts_after c.on_target-in-Create.result c.choose_target.ensures.untouched c.on_target-in-Create.ensures.starts)
      (λ f told. chosen t f (Create c.in-Create.place) c.in-Ok.choice (c.in-Ok.ensures.chosen f told.0) c.in-Create.is));
  rest = c.on_target-in-Create.ensures.rest;
  within = c.on_target-in-Create.ensures.within;
}

pub on_target-requires-clause-within : goal.on_target-requires-clause-within
on_target-requires-clause-within g c = subst (IsAmong (length c.args.task.now.patch.now.targets.items)) c.in-Existing.is c.in-Ok.ensures.within

pub on_target-requires-clause-there : goal.on_target-requires-clause-there
on_target-requires-clause-there g c = λ f told. sym (subst (IsPresent (bytes_of (plain_task c.args.task.now) f)) c.in-Existing.is (c.in-Ok.ensures.there f told))

pub on_target-requires-clause-task : goal.on_target-requires-clause-task
on_target-requires-clause-task g c = c.requires.task

pub on_target-requires-clause-size : goal.on_target-requires-clause-size
on_target-requires-clause-size g c = c.requires.size

pub on_target-requires-in-Create-clause-within : goal.on_target-requires-in-Create-clause-within
on_target-requires-in-Create-clause-within g c = subst (IsAmong (length c.args.task.now.patch.now.targets.items)) c.in-Create.is c.in-Ok.ensures.within

pub on_target-requires-in-Create-clause-there : goal.on_target-requires-in-Create-clause-there
on_target-requires-in-Create-clause-there g c = λ f told. sym (subst (IsPresent (bytes_of (plain_task c.args.task.now) f)) c.in-Create.is (c.in-Ok.ensures.there f told))

pub on_target-requires-in-Create-clause-task : goal.on_target-requires-in-Create-clause-task
on_target-requires-in-Create-clause-task g c = c.requires.task

pub on_target-requires-in-Create-clause-size : goal.on_target-requires-in-Create-clause-size
on_target-requires-in-Create-clause-size g c = c.requires.size

pub returns-in-Nothing : goal.returns-in-Nothing
returns-in-Nothing g c = record {
  starts = (
      let t = plain_task c.args.task.now in
      let e = c.without_target.ensures in
      starts_is c.without_target.result (own_start t) (starts_after c.without_target.result c.choose_target.ensures.untouched (starts_skips _ _ c.without_target.result _ e.writes e.fault e.row))
      (λ f told. chosen t f Nothing c.in-Ok.choice (c.in-Ok.ensures.chosen f told.0) c.in-Nothing.is));
  rest = c.without_target.ensures.rest;
  within = IfOk-weaker c.without_target.result _ _ (λ d is. subst (IsWithin (length c.args.task.now.patch.now.targets.items)) (sym is) tt) c.without_target.ensures.row;
}

pub returns-in-Err : goal.returns-in-Err
returns-in-Err g c = record {
  starts = starts_lost (own_start (plain_task c.args.task.now)) c.choose_target.ensures.untouched c.in-Err.ensures.cause;
  rest = g.met.O.Sink.rest_none _;
  within = tt;
}

pub choose_target-requires : goal.choose_target-requires
choose_target-requires g c = record { task = c.requires.task }
