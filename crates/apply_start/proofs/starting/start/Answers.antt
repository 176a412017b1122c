use Rattle.std.proofs.Common.{◌≡◌, Bool, List, [], if◌then◌else◌, refl, sym, ap}
use Rattle.outside.specs.Files.{Files}
use Rattle.outside.proofs.Writing.{writes_is}
use Rattle.name_choice.specs.declared.Choice.{Choice}
use Rattle.name_choice.specs.declared.Choice.TheVariants.{Existing, Create, Nothing}
use Rattle.apply_start.specs.Skipping.{changes_said}
use Rattle.apply_task.specs.Contexts.{PastFilePatch, PlainContext}
use Rattle.apply_start.specs.Start.{on_choice, choice_of, skipped_said, own_start, start}
use Rattle.apply_task.specs.TaskView.{plain_task, with_past}
use Rattle.apply_start.proofs.StartSteps.{starts_said, starts_unsaid, starts_is, begins_first}
use Rattle.outside.proofs.Exits.{if_ok_none}
use Rattle.apply_start.proofs.starting.start.Goals as goal

-- once its first words are said, a file patch is taken alike whatever was before it
module _ (past : List PastFilePatch) (t : PlainContext) (f : Files) where
  chosen_same : (x : Choice) → on_choice t f x ≡ on_choice (with_past past t) f x
  chosen_same (Existing k) = refl
  chosen_same (Create k) = refl
  chosen_same Nothing = refl

  own_same : own_start t f ≡ own_start (with_past past t) f
  own_same = chosen_same (choice_of t f)

said_if : (t : PlainContext) (first other : Bool) → first ≡ other → (if other then changes_said t.options t.item.skipped else []) ≡ (if first then changes_said t.options t.item.skipped else [])
said_if t first other is = ap (λ (b : Bool). if b then changes_said t.options t.item.skipped else []) (sym is)

pub returns : goal.returns
unfolding start
returns g c = record {
  starts = λ past first.
      let t = plain_task c.args.task.now in
      starts_said c.in_ok-tell_skipped.field-0 c.start_own.result (writes_is _ _ c.in_ok-tell_skipped.ensures.writes (said_if t _ _ first))
      (starts_is c.start_own.result (λ f. own_start (with_past past t) f) c.start_own.ensures.starts (λ f told. own_same past t f));
  rest = g.met.O.Sink.rest_both _ _ _ c.in_ok-tell_skipped.ensures.rest c.start_own.ensures.rest;
  within = c.start_own.ensures.within;
}

pub returns-in_err-tell_skipped : goal.returns-in_err-tell_skipped
unfolding start
returns-in_err-tell_skipped g c = record {
  starts = λ past first.
      let t = plain_task c.args.task.now in
      starts_unsaid _ _ c.in_err-tell_skipped.field-0.0 c.from_residual.result (λ f. start (with_past past t) f) c.from_residual.ensures.1
      (writes_is _ _ c.in_err-tell_skipped.ensures.writes (said_if t _ _ first))
      (λ f. begins_first (skipped_said (with_past past t)) (own_start (with_past past t) f));
  rest = c.in_err-tell_skipped.ensures.rest;
  within = if_ok_none _ _ c.from_residual.result c.from_residual.ensures.1;
}

pub start_own-requires-clause-task : goal.start_own-requires-clause-task
start_own-requires-clause-task g c = c.requires.task

pub start_own-requires-clause-size : goal.start_own-requires-clause-size
start_own-requires-clause-size g c = c.requires.size
