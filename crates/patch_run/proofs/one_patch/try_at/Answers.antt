use Rattle.std.proofs.Common.{◌≡◌, inl, ℕ, List, [], length, Some, true, sym, ◌∙◌, ap, subst, arith}
use Rattle.outside.specs.Files.{Files}
use Rattle.outside.specs.TreeView.{passes_both}
use Rattle.outside.specs.Calls.{untouched_both}
use Rattle.apply_task.specs.Outputs.{verdicts_over}
use Rattle.patch_set.specs.declared.set.Row.{Row}
use Rattle.read_file_patch.specs.declared.derived.Target.{Target}
use Rattle.apply_task.specs.declared.fault.RunFault.{RunFault}
use Rattle.patch_run.specs.OnePatch.{bytes_of, lines_in, written, effects_of, tried, tried_said, finished, finished_at}
use Rattle.patch_run.specs.Doing.{IsDone, IsPartOf, IsOrdered, IsDeviceFault}
use Rattle.apply_task.specs.TaskView.{plain_task}
use Rattle.apply_outcome.specs.ContextView.{plain_context}
use Rattle.patch_run.proofs.Applying.{held_behind, on_err, if_err, if_any, unmade, part_worked, tried_breaks, tried_ordered, tried_done}
use Rattle.apply_outcome.proofs.Moving.{works_made}
use Rattle.apply_task.specs.Making.{IsTidy}
use Rattle.apply_task.proofs.Tidy.{tidy_both, untouched_tidy, attempt_tidy, passed_tidy}
use Rattle.patch_run.proofs.EndCause.{end_failed, end_device, try_device, quiet_passed, kept_plan, try_stays, end_stays}
use Rattle.outside.proofs.Exits.{if_ok_none}
use Rattle.std.proofs.lemmas.Option.{same_Some, none-some}
use Rattle.std.proofs.lemmas.Result.{IfOk-weaker}
use Rattle.patch_run.specs.Doing.{IsRefused}
use Rattle.patch_run.specs.declared.one_patch.Done.{Done}
use Rattle.patch_run.proofs.Barred.{any_ok, barred_stays, barred_quiet, barred_tidy, barred_device, tidy_barred, refused_placed}
use Rattle.patch_run.proofs.one_patch.try_at.Goals as goal

pub try_free-requires-clause-named : goal.try_free-requires-clause-named
try_free-requires-clause-named g c = c.written-target.ensures.named

pub tell_and_make-requires-clause-rows : goal.tell_and_make-requires-clause-rows
tell_and_make-requires-clause-rows g c = c.in_ok-trial.ensures.rows ∙ c.requires.rows

pub tell_and_make-requires-clause-tried : goal.tell_and_make-requires-clause-tried
tell_and_make-requires-clause-tried g c = c.in_ok-trial.ensures.tried

pub tell_and_make-requires-clause-begun : goal.tell_and_make-requires-clause-begun
tell_and_make-requires-clause-begun g c = c.in_ok-trial.ensures.begun

pub tell_and_make-requires-clause-quiet : goal.tell_and_make-requires-clause-quiet
tell_and_make-requires-clause-quiet g c = c.in_ok-trial.ensures.works.quiet

pub tell_and_make-requires-clause-there : goal.tell_and_make-requires-clause-there
tell_and_make-requires-clause-there g c = c.in_ok-trial.ensures.there

pub returns-in_err-trial : goal.returns-in_err-trial
returns-in_err-trial g c = record {
  broken = (
      let t = plain_context c.args.turn.now in
      let u = g.T.Tree.view c.args.tree.now in
      let v = g.T.Tree.view c.try_free.new.tree in
      let d = g.O.Sink.view c.args.out.now in
      let s = c.chosen-source.result.now in
      let w = c.written-target.result.now in
      on_err c.from_residual.result (λ f told lines.
      let x = tried t c.args.side (lines_in (bytes_of t f c.args.place)) in
      subst (λ (z : Target). IsPartOf u v d d (effects_of t f z (written t c.args.place) x) (tried_said t (written t c.args.place) x)) c.chosen-source.ensures.target
      (subst (λ (y : Target). IsPartOf u v d d (effects_of t f s y x) (tried_said t y x)) c.written-target.ensures.target
      (part_worked w.temp d (effects_of t f s w x) (tried_said t w x) c.written-target.ensures.named.temps.own c.in_err-trial.ensures.works))));
  dry = c.in_err-trial.ensures.dry;
  order = (
      let t = plain_context c.args.turn.now in
      let u = g.T.Tree.view c.args.tree.now in
      let d = g.O.Sink.view c.args.out.now in
      if_any
      (λ (e : RunFault). (f : Files) → u.told ≡ Some f → (g.P.LineStore.seen c.args.plan.now).told ≡ Some (lines_in (bytes_of t f c.args.place)) → IsOrdered e u (g.T.Tree.view c.try_free.new.tree) d d (finished_at t f [] c.args.place c.args.side).said)
      c.from_residual.result (λ e f told plan. inl (unmade (works_made c.written-target.result.now.temp c.written-target.ensures.named.temps.own c.in_err-trial.ensures.works))));
  tidy = passed_tidy (g.T.Tree.view c.args.tree.now) (g.T.Tree.view c.try_free.new.tree) c.in_err-trial.field-0.0 c.from_residual.result c.from_residual.ensures.1 c.in_err-trial.ensures.tidy;
  keeps = c.in_err-trial.ensures.keeps;
  rows = c.in_err-trial.ensures.rows;
  rest = g.met.O.Sink.rest_none _;
  whole = if_ok_none _ _ c.from_residual.result c.from_residual.ensures.1;
  few = if_ok_none _ _ c.from_residual.result c.from_residual.ensures.1;
  placed = if_ok_none _ _ c.from_residual.result c.from_residual.ensures.1;
  stays = (
      try_stays (g.T.Tree.view c.args.tree.now) (g.T.Tree.view c.try_free.new.tree) (g.P.LineStore.seen c.args.plan.now) (g.P.LineStore.seen c.try_free.new.plan) (g.O.Sink.view c.args.out.now) c.in_err-trial.field-0.0 c.from_residual.result c.from_residual.ensures.1
      c.in_err-trial.ensures.works.passes c.in_err-trial.ensures.keeps c.requires.told c.in_err-trial.ensures.cause);
  quiet = (
      let fault = c.in_err-trial.field-0.0 in
      quiet_passed (g.T.Tree.view c.try_free.new.tree) fault c.from_residual.result c.from_residual.ensures.1
      (try_device (g.T.Tree.view c.args.tree.now) (g.T.Tree.view c.try_free.new.tree) (g.P.LineStore.seen c.args.plan.now) (g.P.LineStore.seen c.try_free.new.plan) fault c.in_err-trial.ensures.cause));
  cause = (
      let fault = c.in_err-trial.field-0.0 in
      if_err (λ (x : RunFault). IsDeviceFault x) fault c.from_residual.result c.from_residual.ensures.1
      (try_device (g.T.Tree.view c.args.tree.now) (g.T.Tree.view c.try_free.new.tree) (g.P.LineStore.seen c.args.plan.now) (g.P.LineStore.seen c.try_free.new.plan) fault c.in_err-trial.ensures.cause));
}

pub returns-in_err-made : goal.returns-in_err-made
returns-in_err-made g c = record {
  broken = (
      let t = plain_context c.args.turn.now in
      let u = g.T.Tree.view c.args.tree.now in
      let z = g.T.Tree.view c.tell_and_make.new.tree in
      let d = g.O.Sink.view c.args.out.now in
      let e = g.O.Sink.view c.tell_and_make.new.out in
      let s = c.chosen-source.result.now in
      let w = c.written-target.result.now in
      let tries = c.in_ok-trial.ensures in
      on_err c.from_residual-in_err-made.result (λ f told plan.
      let ls = lines_in (bytes_of t f c.args.place) in
      let x = tried t c.args.side ls in
      subst (λ (y : Target). IsPartOf u z d e (effects_of t f y (written t c.args.place) x) (tried_said t (written t c.args.place) x)) c.chosen-source.ensures.target
      (subst (λ (y : Target). IsPartOf u z d e (effects_of t f s y x) (tried_said t y x)) c.written-target.ensures.target
      (tried_breaks t f s w c.args.side ls c.in_ok-trial.trial.attempt.session c.try_free.new.verdicts c.in_ok-trial.trial.end c.chosen-source.ensures.named c.written-target.ensures.named tries.works told (tries.verdicts ls plan) (tries.session ls plan) (tries.end ls plan) (λ wet. held_behind t.past (plain_task c.args.turn.now.task) c.args.side ls (g.T.Tree.view c.try_free.new.tree) w.temp (tries.holds ls plan wet))
      c.in_err-made.ensures.tree c.in_err-made.ensures.broken))));
  dry = λ dry. untouched_both (c.in_ok-trial.ensures.dry dry) (c.in_err-made.ensures.dry dry);
  order = (
      let t = plain_context c.args.turn.now in
      let u = g.T.Tree.view c.args.tree.now in
      let z = g.T.Tree.view c.tell_and_make.new.tree in
      let d = g.O.Sink.view c.args.out.now in
      let e = g.O.Sink.view c.tell_and_make.new.out in
      let s = c.chosen-source.result.now in
      let w = c.written-target.result.now in
      let tries = c.in_ok-trial.ensures in
      let fault = c.in_err-made.field-0.0 in
      if_err
      (λ (x : RunFault). (f : Files) → u.told ≡ Some f → (g.P.LineStore.seen c.args.plan.now).told ≡ Some (lines_in (bytes_of t f c.args.place)) → IsOrdered x u z d e (finished_at t f [] c.args.place c.args.side).said)
      fault c.from_residual-in_err-made.result c.from_residual-in_err-made.ensures.1 (λ f told plan.
      let ls = lines_in (bytes_of t f c.args.place) in
      subst (λ (y : Target). IsOrdered fault u z d e (tried_said t y (tried t c.args.side ls))) c.written-target.ensures.target
      (tried_ordered t f s w c.args.side ls c.in_ok-trial.trial.attempt.session c.try_free.new.verdicts c.in_ok-trial.trial.end c.chosen-source.ensures.named c.written-target.ensures.named tries.works told (tries.verdicts ls plan) (tries.session ls plan) (tries.end ls plan) (λ wet. held_behind t.past (plain_task c.args.turn.now.task) c.args.side ls (g.T.Tree.view c.try_free.new.tree) w.temp (tries.holds ls plan wet))
      d e fault c.in_err-made.ensures.tree c.in_err-made.ensures.order)));
  tidy = (
      let u = g.T.Tree.view c.args.tree.now in
      let v = g.T.Tree.view c.try_free.new.tree in
      let z = g.T.Tree.view c.tell_and_make.new.tree in
      let fault = c.in_err-made.field-0.0 in
      passed_tidy u z fault c.from_residual-in_err-made.result c.from_residual-in_err-made.ensures.1
      (end_failed (IsTidy u z) v z (g.O.Sink.view c.args.out.now) (g.O.Sink.view c.tell_and_make.new.out) fault c.in_err-made.ensures.cause));
  keeps = c.in_ok-trial.ensures.keeps;
  rows = c.in_ok-trial.ensures.rows;
  rest = c.in_err-made.ensures.rest;
  whole = if_ok_none _ _ c.from_residual-in_err-made.result c.from_residual-in_err-made.ensures.1;
  few = if_ok_none _ _ c.from_residual-in_err-made.result c.from_residual-in_err-made.ensures.1;
  placed = if_ok_none _ _ c.from_residual-in_err-made.result c.from_residual-in_err-made.ensures.1;
  stays = (
      let made = c.in_err-made.ensures in
      end_stays (g.T.Tree.view c.args.tree.now) (g.T.Tree.view c.try_free.new.tree) (g.T.Tree.view c.tell_and_make.new.tree) (g.P.LineStore.seen c.args.plan.now) (g.P.LineStore.seen c.try_free.new.plan) (g.O.Sink.view c.args.out.now) (g.O.Sink.view c.tell_and_make.new.out)
      c.in_err-made.field-0.0 c.from_residual-in_err-made.result c.from_residual-in_err-made.ensures.1 c.in_ok-trial.ensures.works.passes made.tree c.in_ok-trial.ensures.keeps made.sink made.cause);
  quiet = (
      let fault = c.in_err-made.field-0.0 in
      quiet_passed (g.T.Tree.view c.tell_and_make.new.tree) fault c.from_residual-in_err-made.result c.from_residual-in_err-made.ensures.1
      (end_device (g.T.Tree.view c.try_free.new.tree) (g.T.Tree.view c.tell_and_make.new.tree) (g.O.Sink.view c.args.out.now) (g.O.Sink.view c.tell_and_make.new.out) fault c.in_err-made.ensures.cause));
  cause = (
      let fault = c.in_err-made.field-0.0 in
      if_err (λ (x : RunFault). IsDeviceFault x) fault c.from_residual-in_err-made.result c.from_residual-in_err-made.ensures.1
      (end_device (g.T.Tree.view c.try_free.new.tree) (g.T.Tree.view c.tell_and_make.new.tree) (g.O.Sink.view c.args.out.now) (g.O.Sink.view c.tell_and_make.new.out) fault c.in_err-made.ensures.cause));
}

pub returns : goal.returns
returns g c = record {
  whole = λ f told plan.
      let t = plain_context c.args.turn.now in
      let u = g.T.Tree.view c.args.tree.now in
      let z = g.T.Tree.view c.tell_and_make.new.tree in
      let d = g.O.Sink.view c.args.out.now in
      let e = g.O.Sink.view c.tell_and_make.new.out in
      let s = c.chosen-source.result.now in
      let w = c.written-target.result.now in
      let tries = c.in_ok-trial.ensures in
      let ls = lines_in (bytes_of t f c.args.place) in
      let x = tried t c.args.side ls in
      let same : (h : Files) → (g.T.Tree.view c.try_free.new.tree).told ≡ Some h → t.options.dry_run ≡ true → h ≡ f = λ h now dry. same_Some h f (sym now ∙ (tries.dry dry).told ∙ told) in
      subst (λ (y : Target). IsDone u z d e c.done_of.result c.try_free.new.verdicts f (finished t f [] c.args.place (bytes_of t f c.args.place) y (written t c.args.place) x)) c.chosen-source.ensures.target
      (subst (λ (y : Target). IsDone u z d e c.done_of.result c.try_free.new.verdicts f (finished t f [] c.args.place (bytes_of t f c.args.place) s y x)) c.written-target.ensures.target
      (tried_done t f s w c.args.side ls c.in_ok-trial.trial.attempt.session c.try_free.new.verdicts c.in_ok-trial.trial.end c.chosen-source.ensures.named c.written-target.ensures.named tries.works told (tries.verdicts ls plan) (tries.session ls plan) (tries.end ls plan) (λ wet. held_behind t.past (plain_task c.args.turn.now.task) c.args.side ls (g.T.Tree.view c.try_free.new.tree) w.temp (tries.holds ls plan wet))
      c.args.place c.in_ok-made.made c.done_of.result same c.in_ok-made.ensures.whole c.done_of.ensures.row c.done_of.ensures.bad c.done_of.ensures.effects));
  dry = λ dry. untouched_both (c.in_ok-trial.ensures.dry dry) (c.in_ok-made.ensures.dry dry);
  tidy = (
      let view = g.T.Tree.view in
      let made = c.in_ok-made.ensures in
      attempt_tidy (view c.args.tree.now) (view c.try_free.new.tree) (view c.tell_and_make.new.tree) c.args.turn.now.task.options.now.dry_run c.written-target.result.now.temp
      (λ dry. tidy_both (view c.args.tree.now) (view c.try_free.new.tree) (view c.tell_and_make.new.tree) (c.in_ok-trial.ensures.dry dry).passes (untouched_tidy (c.in_ok-trial.ensures.dry dry)) made.tidy) made.gone c.in_ok-trial.ensures.works made.tidy);
  cause = tt;
  broken = tt;
  order = tt;
  keeps = c.in_ok-trial.ensures.keeps;
  rows = c.in_ok-trial.ensures.rows;
  rest = c.in_ok-made.ensures.rest;
  quiet = c.in_ok-made.ensures.quiet;
  few = omega (arith, c.done_of.ensures.effects, c.in_ok-made.ensures.few);
  placed = λ lines told. inl (
      c.in_ok-trial.ensures.verdicts lines (sym c.in_ok-trial.ensures.keeps.told ∙ told)
      ∙ ap (λ (r : Row). verdicts_over (plain_context c.args.turn.now).options r.side (plain_context c.args.turn.now).item.patch lines) (sym c.done_of.ensures.row));
  stays = record {
    tree = passes_both c.in_ok-trial.ensures.works.passes c.in_ok-made.ensures.tree;
    plan = kept_plan (g.P.LineStore.seen c.args.plan.now) (g.P.LineStore.seen c.try_free.new.plan) c.in_ok-trial.ensures.keeps;
    sink = c.in_ok-made.ensures.sink;
    cause = tt;
  };
}

pub chosen-source-requires-clause-task : goal.chosen-source-requires-clause-task
chosen-source-requires-clause-task g c = c.requires.turn.task

pub written-target-requires-clause-task : goal.written-target-requires-clause-task
written-target-requires-clause-task g c = c.requires.turn.task

pub try_free-requires-clause-turn : goal.try_free-requires-clause-turn
try_free-requires-clause-turn g c = c.requires.turn

pub tell_and_make-requires-clause-source : goal.tell_and_make-requires-clause-source
tell_and_make-requires-clause-source g c = c.chosen-source.ensures.named

pub tell_and_make-requires-clause-named : goal.tell_and_make-requires-clause-named
tell_and_make-requires-clause-named g c = c.written-target.ensures.named

pub done_of-requires : goal.done_of-requires
done_of-requires g c = record { turn = c.requires.turn }

pub try_free-requires-clause-rows : goal.try_free-requires-clause-rows
try_free-requires-clause-rows g c = c.requires.rows

pub try_free-requires-clause-quiet : goal.try_free-requires-clause-quiet
try_free-requires-clause-quiet g c = c.requires.quiet

pub tell_and_make-requires-clause-turn : goal.tell_and_make-requires-clause-turn
tell_and_make-requires-clause-turn g c = c.requires.turn

pub written-target-requires-clause-within : goal.written-target-requires-clause-within
written-target-requires-clause-within g c = c.requires.within

pub chosen-source-requires-clause-within : goal.chosen-source-requires-clause-within
chosen-source-requires-clause-within g c = c.requires.within

pub returns-in-Some : goal.returns-in-Some
returns-in-Some g c =
    let t = plain_context c.args.turn.now in
    let u = g.T.Tree.view c.args.tree.now in
    let v = g.T.Tree.view c.try_free.new.tree in
    let w = g.T.Tree.view c.refuse_tried.new.tree in
    let d = g.O.Sink.view c.args.out.now in
    let e = g.O.Sink.view c.refuse_tried.new.out in
    let r = c.refuse_tried.result in
    let tries = c.in_ok-trial.ensures in
    let ends = c.refuse_tried.ensures in
    let none : (f : Files) → u.told ≡ Some f → ⊥ = λ f told. none-some _ (sym (tries.free f told) ∙ c.in-Some.is) in
    record {
      stays = barred_stays u v w (g.P.LineStore.seen c.args.plan.now) (g.P.LineStore.seen c.try_free.new.plan) d e r tries.works.passes ends.tree tries.keeps ends.sink ends.cause;
      keeps = tries.keeps;
      quiet = barred_quiet v w d e r ends.quiet ends.cause;
      tidy = barred_tidy u v w d e r (tidy_barred u v w c.args.turn.now.task.options.now.dry_run c.written-target.result.now.temp r tries.dry tries.works ends.tidy ends.gone) ends.cause;
      cause = barred_device v w d e r ends.cause;
      whole = any_ok _ r (λ done f told. absurd (none f told));
      broken = on_err r (λ f told. absurd (none f told));
      order = if_any _ r (λ fault f told. absurd (none f told));
      rest = ends.rest;
      dry = λ dry. untouched_both (tries.dry dry) (ends.dry dry);
      rows = ends.rows ∙ tries.rows;
      few = IfOk-weaker r (IsRefused t) _ (λ done refused. omega (arith, refused.few)) ends.refused;
      placed = (
          refused_placed (λ (done : Done) (lines : List (List ℕ)). c.refuse_tried.new.verdicts ≡ verdicts_over t.options done.row.side t.item.patch lines) (λ (lines : List (List ℕ)). (g.P.LineStore.seen c.try_free.new.plan).told ≡ Some lines) u t r
          c.try_free.new.verdicts c.refuse_tried.new.verdicts (length c.args.verdicts.now) tries.rows none ends.refused ends.nowhere);
    }

pub refuse_tried-requires-clause-turn : goal.refuse_tried-requires-clause-turn
refuse_tried-requires-clause-turn g c = c.requires.turn

pub refuse_tried-requires-clause-within : goal.refuse_tried-requires-clause-within
refuse_tried-requires-clause-within g c = c.requires.within

pub refuse_tried-requires-clause-named : goal.refuse_tried-requires-clause-named
refuse_tried-requires-clause-named g c = c.written-target.ensures.named

pub refuse_tried-requires-clause-begun : goal.refuse_tried-requires-clause-begun
refuse_tried-requires-clause-begun g c = c.in_ok-trial.ensures.begun

pub refuse_tried-requires-clause-rows : goal.refuse_tried-requires-clause-rows
refuse_tried-requires-clause-rows g c = c.in_ok-trial.ensures.rows ∙ c.requires.rows

pub refuse_tried-requires-clause-quiet : goal.refuse_tried-requires-clause-quiet
refuse_tried-requires-clause-quiet g c = c.in_ok-trial.ensures.works.quiet

pub refuse_tried-requires-clause-there : goal.refuse_tried-requires-clause-there
refuse_tried-requires-clause-there g c = c.in_ok-trial.ensures.there
