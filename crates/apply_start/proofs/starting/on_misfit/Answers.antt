use Rattle.std.proofs.Common.{◌≡◌, Bool, true, false, List, ℕ, Option, None, Result, Ok, Err, if◌then◌else◌, sym, ◌∙◌, ap, Some, subst, length}
use Rattle.outside.specs.SinkView.{SinkView, Writes}
use Rattle.outside.proofs.Writing.{writes_is}
use Rattle.outside.proofs.Exits.{if_ok_none}
use Rattle.hunk_core.specs.declared.Side.{Side}
use Rattle.hunk_core.specs.Turned.{other_side}
use Rattle.say_text.specs.Messages.{silenced, unfit_line}
use Rattle.say_text.specs.declared.standing.Standing.{Standing}
use Rattle.read_file_patch.specs.declared.derived.Target.{Target}
use Rattle.apply_task.specs.Contexts.{PlainContext, bytes_of, shown, written}
use Rattle.apply_start.specs.Start.{Start, unfit_said, said_first, skips_at, on_taking, on_misfit, turns_round}
use Rattle.apply_task.specs.TaskView.{plain_task}
use Rattle.apply_start.proofs.StartSteps.{Begins, begins_first, begins_skips, starts_said, starts_unsaid, starts_is, starts_skips, writes_value}
use Rattle.apply_start.specs.Starting.{IsWithin}
use Rattle.apply_start.proofs.starting.on_misfit.Goals as goal

-- the line that says so
said : {R E : Type 0} {c d : SinkView} (r : Result R E) (t : PlainContext) (stands : Standing) (place : ℕ) (name : List ℕ) (target : Target) (a b : Bool)
    → Writes c d r (silenced t.options (unfit_line stands name a)) → name ≡ shown target → target ≡ written t place → a ≡ b → Writes c d r (unfit_said t stands place b)
said r t stands place name target a b w named is same =
    writes_is r (unfit_said t stands place b) w (ap (λ (n : List ℕ). silenced t.options (unfit_line stands n a)) (named ∙ ap shown is) ∙ ap (λ (x : Bool). unfit_said t stands place x) same)

begins_if : (test : Bool) (text : Bool → List ℕ) (x y : Start) → Begins (text true) x → Begins (text false) y → Begins (text test) (if test then x else y)
begins_if true text x y first second = first
begins_if false text x y first second = second

module _ (t : PlainContext) (stands : Standing) (place : ℕ) (bytes : Option (List ℕ)) (side : Side) where
  -- whether it is turned round or skipped
  begins : Begins (unfit_said t stands place (turns_round t)) (on_misfit t stands place bytes side)
  begins = begins_if (turns_round t) (unfit_said t stands place) _ _ (begins_first (unfit_said t stands place true) (on_taking t place bytes true (other_side side))) (begins_skips (unfit_said t stands place false) _ None)

  chosen : (b : Bool) → turns_round t ≡ b → (if b then said_first (unfit_said t stands place true) (on_taking t place bytes true (other_side side)) else skips_at (unfit_said t stands place false) place side None) ≡ on_misfit t stands place bytes side
  chosen b is = sym (ap (λ (x : Bool). if x then said_first (unfit_said t stands place true) (on_taking t place bytes true (other_side side)) else skips_at (unfit_said t stands place false) place side None) is)

pub returns-in_err-say_unfit : goal.returns-in_err-say_unfit
returns-in_err-say_unfit g c = record {
  starts = (
      let t = plain_task c.args.task.now in
      let place = c.args.place in
      starts_unsaid _ _ c.in_err-say_unfit.field-0.0 c.from_residual.result (λ f. on_misfit t c.args.standing place (bytes_of t f place) c.args.side) c.from_residual.ensures.1
      (said (Err c.in_err-say_unfit.field-0.0) t c.args.standing place c.shown.result.now c.written.result.now c.turns_round-is_turned.result (turns_round t) c.in_err-say_unfit.ensures.writes c.shown.ensures c.written.ensures.target c.turns_round-is_turned.ensures)
      (λ f. begins t c.args.standing place (bytes_of t f place) c.args.side));
  rest = c.in_err-say_unfit.ensures.rest;
  within = if_ok_none _ _ c.from_residual.result c.from_residual.ensures.1;
}

pub returns-then-is_turned : goal.returns-then-is_turned
returns-then-is_turned g c = record {
  starts = (
      let t = plain_task c.args.task.now in
      let place = c.args.place in
      starts_is c.on_taking.result (λ f. on_misfit t c.args.standing place (bytes_of t f place) c.args.side)
      (starts_said _ c.on_taking.result
      (said (Ok c.in_ok-say_unfit.field-0) t c.args.standing place c.shown.result.now c.written.result.now c.turns_round-is_turned.result true c.in_ok-say_unfit.ensures.writes c.shown.ensures c.written.ensures.target c.if-is_turned.true)
      (starts_is c.on_taking.result (λ f. on_taking t place (bytes_of t f place) true (other_side c.args.side)) c.on_taking.ensures.starts (λ f told. ap (λ (s : Side). on_taking t place (bytes_of t f place) true s) c.other.ensures)))
      (λ f told. chosen t c.args.standing place (bytes_of t f place) c.args.side true (sym c.if-is_turned.ensures)));
  rest = g.met.O.Sink.rest_both _ _ _ c.in_ok-say_unfit.ensures.rest c.on_taking.ensures.rest;
  within = c.on_taking.ensures.within;
}

pub returns-else-is_turned : goal.returns-else-is_turned
returns-else-is_turned g c = record {
  rest = c.in_ok-say_unfit.ensures.rest;
  starts = (
      let t = plain_task c.args.task.now in
      let place = c.args.place in
      starts_is (Ok c.skip_at.result) (λ f. on_misfit t c.args.standing place (bytes_of t f place) c.args.side)
      (starts_skips _ _ (Ok c.skip_at.result) (record { side = c.args.side; target = Some place; wrote = false })
      (writes_value c.in_ok-say_unfit.field-0 c.skip_at.result (said (Ok c.in_ok-say_unfit.field-0) t c.args.standing place c.shown.result.now c.written.result.now c.turns_round-is_turned.result false c.in_ok-say_unfit.ensures.writes c.shown.ensures c.written.ensures.target c.if-is_turned.false))
      tt c.skip_at.ensures)
      (λ f told. chosen t c.args.standing place (bytes_of t f place) c.args.side false (sym c.if-is_turned.ensures)));
  within = subst (IsWithin (length c.args.task.now.patch.now.targets.items)) (sym c.skip_at.ensures) tt;
}

pub on_taking-requires-clause-within : goal.on_taking-requires-clause-within
on_taking-requires-clause-within g c = c.requires.within

pub on_taking-requires-clause-task : goal.on_taking-requires-clause-task
on_taking-requires-clause-task g c = c.requires.task

pub on_taking-requires-clause-there : goal.on_taking-requires-clause-there
on_taking-requires-clause-there g c = c.requires.there

pub on_taking-requires-clause-size : goal.on_taking-requires-clause-size
on_taking-requires-clause-size g c = c.requires.size

pub written-requires-clause-within : goal.written-requires-clause-within
written-requires-clause-within g c = c.requires.within

pub written-requires-clause-task : goal.written-requires-clause-task
written-requires-clause-task g c = c.requires.task
