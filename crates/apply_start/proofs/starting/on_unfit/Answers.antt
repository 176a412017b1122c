use Rattle.std.proofs.Common.{◌≡◌, ℕ, List, Bool, Option, if◌then◌else◌, true, false, sym, ◌∙◌, ap}
use Rattle.hunk_core.specs.declared.Side.{Side}
use Rattle.say_text.specs.declared.standing.Standing.{Standing}
use Rattle.apply_task.specs.Contexts.{PlainContext, bytes_of}
use Rattle.apply_start.specs.Start.{is_forced, on_taking, on_misfit, on_unfit}
use Rattle.apply_task.specs.TaskView.{plain_task}
use Rattle.apply_start.proofs.StartSteps.{starts_is}
use Rattle.apply_start.proofs.starting.on_unfit.Goals as goal

chosen : (t : PlainContext) (stands : Standing) (place : ℕ) (bytes : Option (List ℕ)) (side : Side) (b : Bool) → is_forced t place ≡ b
    → (if b then on_taking t place bytes false side else on_misfit t stands place bytes side) ≡ on_unfit t stands place bytes side
chosen t stands place bytes side b is = sym (ap (λ (x : Bool). if x then on_taking t place bytes false side else on_misfit t stands place bytes side) is)

pub returns-then-is_forced : goal.returns-then-is_forced
returns-then-is_forced g c = record {
  starts = (
      let t = plain_task c.args.task.now in
      let place = c.args.place in
      starts_is c.on_taking.result (λ f. on_unfit t c.args.standing place (bytes_of t f place) c.args.side) c.on_taking.ensures.starts
      (λ f told. chosen t c.args.standing place (bytes_of t f place) c.args.side true (sym c.is_forced.ensures ∙ c.if-is_forced.true)));
  rest = c.on_taking.ensures.rest;
  within = c.on_taking.ensures.within;
}

pub returns-else-is_forced : goal.returns-else-is_forced
returns-else-is_forced g c = record {
  starts = (
      let t = plain_task c.args.task.now in
      let place = c.args.place in
      starts_is c.on_misfit.result (λ f. on_unfit t c.args.standing place (bytes_of t f place) c.args.side) c.on_misfit.ensures.starts
      (λ f told. chosen t c.args.standing place (bytes_of t f place) c.args.side false (sym c.is_forced.ensures ∙ c.if-is_forced.false)));
  rest = c.on_misfit.ensures.rest;
  within = c.on_misfit.ensures.within;
}

pub on_taking-requires-clause-within : goal.on_taking-requires-clause-within
on_taking-requires-clause-within g c = c.requires.within

pub on_taking-requires-clause-task : goal.on_taking-requires-clause-task
on_taking-requires-clause-task g c = c.requires.task

pub on_taking-requires-clause-size : goal.on_taking-requires-clause-size
on_taking-requires-clause-size g c = c.requires.size

pub on_taking-requires-clause-there : goal.on_taking-requires-clause-there
on_taking-requires-clause-there g c = c.requires.there

pub on_misfit-requires-clause-within : goal.on_misfit-requires-clause-within
on_misfit-requires-clause-within g c = c.requires.within

pub on_misfit-requires-clause-task : goal.on_misfit-requires-clause-task
on_misfit-requires-clause-task g c = c.requires.task

pub on_misfit-requires-clause-size : goal.on_misfit-requires-clause-size
on_misfit-requires-clause-size g c = c.requires.size

pub on_misfit-requires-clause-there : goal.on_misfit-requires-clause-there
on_misfit-requires-clause-there g c = c.requires.there

pub is_forced-requires-clause-within : goal.is_forced-requires-clause-within
is_forced-requires-clause-within g c = c.requires.within

pub is_forced-requires-clause-task : goal.is_forced-requires-clause-task
is_forced-requires-clause-task g c = c.requires.task
