use Rattle.std.proofs.Common.{◌≡◌, inl, inr, ◌≤◌, ℕ, List, Some, true, refl, length, replicate, sym, ◌∙◌, ap, subst, arith}
use Rattle.std.proofs.lemmas.List.{length-replicate}
use Rattle.std.proofs.lemmas.Result.{IfOk-weaker}
use Rattle.outside.specs.Calls.{untouched_both}
use Rattle.outside.proofs.Exits.{if_ok_none}
use Rattle.outside.proofs.Views.{untouched_quiet}
use Rattle.hunk_core.specs.declared.Verdict.{Verdict}
use Rattle.hunk_core.specs.declared.Verdict.TheVariants.{Ignored, Nowhere}
use Rattle.apply_task.specs.Outputs.{verdicts_over}
use Rattle.apply_start.specs.declared.starting.Decision.{Decision}
use Rattle.apply_start.specs.Starting.{IsWithin}
use Rattle.patch_run.specs.declared.one_patch.Done.{Done}
use Rattle.patch_run.specs.OnePatch.{total}
use Rattle.apply_outcome.specs.ContextView.{plain_context}
use Rattle.patch_run.proofs.First.{is-first}
use Rattle.apply_outcome.proofs.Marks.{rows-counted}
use Rattle.patch_run.specs.Doing.{IsUntold, IsRefused, ArePlaced}
use Rattle.patch_run.proofs.Refused.{untold_at, refuse_does, placed_before}
use Rattle.patch_run.proofs.Turning.{start_fails, lines_told, skip_does, try_does}
use Rattle.patch_run.proofs.one_patch.apply_one.Goals as goal

pub try_at-requires-clause-told : goal.try_at-requires-clause-told
try_at-requires-clause-told g c =
    lines_told (plain_context c.args.turn.now) (g.T.Tree.view c.args.tree.now) (g.T.Tree.view c.start.new.tree) (g.P.LineStore.seen c.args.plan.now) (g.P.LineStore.seen c.start.new.plan) (g.O.Sink.view c.args.out.now) (g.O.Sink.view c.start.new.out) g.P.Plan.scratch_after c.requires.quiet
    c.in_ok-row.field-0 (c.in_ok-row.ensures.starts (plain_context c.args.turn.now).past (is-first c.args.turn.now c.requires.turn)) c.in-Try.place c.in-Try.side c.in-Try.is

pub try_at-requires-clause-quiet : goal.try_at-requires-clause-quiet
try_at-requires-clause-quiet g c = untouched_quiet (c.in_ok-row.ensures.starts (plain_context c.args.turn.now).past (is-first c.args.turn.now c.requires.turn)).untouched c.requires.quiet

pub try_at-requires-clause-within : goal.try_at-requires-clause-within
try_at-requires-clause-within g c = subst (λ (d : Decision). IsWithin (length c.args.turn.now.task.patch.now.targets.items) d) c.in-Try.is c.in_ok-row.ensures.within

pub returns-in_err-row : goal.returns-in_err-row
returns-in_err-row g c = record {
  does = (
      start_fails (plain_context c.args.turn.now) (g.T.Tree.view c.args.tree.now) (g.T.Tree.view c.start.new.tree) (g.P.LineStore.seen c.args.plan.now) (g.P.LineStore.seen c.start.new.plan) (g.O.Sink.view c.args.out.now) (g.O.Sink.view c.start.new.out) g.P.Plan.scratch_after c.requires.quiet
      c.in_err-row.field-0.0 c.from_residual.result c.args.verdicts.now c.from_residual.ensures.1 (c.in_err-row.ensures.starts (plain_context c.args.turn.now).past (is-first c.args.turn.now c.requires.turn)));
  dry = λ dry. (c.in_err-row.ensures.starts (plain_context c.args.turn.now).past (is-first c.args.turn.now c.requires.turn)).untouched;
  few = if_ok_none _ _ c.from_residual.result c.from_residual.ensures.1;
  placed = if_ok_none _ _ c.from_residual.result c.from_residual.ensures.1;
  rest = c.in_err-row.ensures.rest;
  rows = refl;
}

pub returns-in-Skip : goal.returns-in-Skip
returns-in-Skip g c = record {
  does = (
      let t = plain_context c.args.turn.now in
      let count : length c.args.verdicts.now ≡ total t = c.requires.rows ∙ sym (rows-counted c.args.turn.now.task.set.now.text c.args.turn.now.task.patch.now.change) in
      skip_does t (g.T.Tree.view c.args.tree.now) (g.T.Tree.view c.start.new.tree) (g.P.LineStore.seen c.args.plan.now) (g.P.LineStore.seen c.start.new.plan) (g.O.Sink.view c.args.out.now) (g.O.Sink.view c.start.new.out) g.P.Plan.scratch_after c.requires.quiet
      c.in_ok-row.field-0 (c.in_ok-row.ensures.starts (plain_context c.args.turn.now).past (is-first c.args.turn.now c.requires.turn)) c.in-Skip.row c.in-Skip.is (g.O.Sink.view c.skip.new.out) c.skip.new.verdicts (c.skip.ensures.ignored ∙ ap (λ n. replicate n Ignored) count) c.skip.result c.skip.ensures.writes c.skip.ensures.fault c.skip.ensures.done);
  dry = λ dry. (c.in_ok-row.ensures.starts (plain_context c.args.turn.now).past (is-first c.args.turn.now c.requires.turn)).untouched;
  rest = g.met.O.Sink.rest_both _ _ _ c.in_ok-row.ensures.rest c.skip.ensures.rest;
  placed = (
      IfOk-weaker c.skip.result (λ (done : Done). done ≡ record { row = c.in-Skip.row; is_bad = true; effects = 0 })
      (λ (done : Done). (lines : List (List ℕ)) → (g.P.LineStore.seen c.start.new.plan).told ≡ Some lines
      → ArePlaced (IsUntold (g.T.Tree.view c.args.tree.now) × IsRefused (plain_context c.args.turn.now) done) (length c.args.verdicts.now) c.skip.new.verdicts (verdicts_over (plain_context c.args.turn.now).options done.row.side (plain_context c.args.turn.now).item.patch lines))
      (λ done is lines told. inl c.skip.ensures.ignored) c.skip.ensures.done);
  few = (
      IfOk-weaker c.skip.result (λ (done : Done). done ≡ record { row = c.in-Skip.row; is_bad = true; effects = 0 }) (λ (done : Done). done.effects ≤ 5)
      (λ done is. omega (arith, ap (λ (d : Done). d.effects) is)) c.skip.ensures.done);
  rows = ap (λ (l : List Verdict). length l) c.skip.ensures.ignored ∙ length-replicate (length c.args.verdicts.now) Ignored;
}

pub returns-in-Refuse : goal.returns-in-Refuse
returns-in-Refuse g c = record {
  does = (
      refuse_does (plain_context c.args.turn.now) (g.T.Tree.view c.args.tree.now) (g.T.Tree.view c.start.new.tree) (g.P.LineStore.seen c.args.plan.now) (g.P.LineStore.seen c.start.new.plan) (g.O.Sink.view c.args.out.now) (g.O.Sink.view c.start.new.out) g.P.Plan.scratch_after
      c.in_ok-row.field-0 (c.in_ok-row.ensures.starts (plain_context c.args.turn.now).past (is-first c.args.turn.now c.requires.turn)) c.in-Refuse.place c.in-Refuse.side c.in-Refuse.is (g.T.Tree.view c.refuse.new.tree) (g.O.Sink.view c.refuse.new.out) c.refuse.new.verdicts
      c.refuse.result c.requires.quiet c.refuse.ensures.tree c.refuse.ensures.sink c.refuse.ensures.cause c.refuse.ensures.quiet c.refuse.ensures.tidy);
  dry = λ dry. untouched_both (c.in_ok-row.ensures.starts (plain_context c.args.turn.now).past (is-first c.args.turn.now c.requires.turn)).untouched (c.refuse.ensures.dry dry);
  rest = g.met.O.Sink.rest_both _ _ _ c.in_ok-row.ensures.rest c.refuse.ensures.rest;
  placed = (
      IfOk-weaker c.refuse.result (IsRefused (plain_context c.args.turn.now))
      (λ (done : Done). (lines : List (List ℕ)) → (g.P.LineStore.seen c.start.new.plan).told ≡ Some lines
      → ArePlaced (IsUntold (g.T.Tree.view c.args.tree.now) × IsRefused (plain_context c.args.turn.now) done) (length c.args.verdicts.now) c.refuse.new.verdicts (verdicts_over (plain_context c.args.turn.now).options done.row.side (plain_context c.args.turn.now).item.patch lines))
      (λ done refused lines told. inr (inr (
        (
          untold_at (plain_context c.args.turn.now) (g.T.Tree.view c.args.tree.now) (g.T.Tree.view c.start.new.tree) (g.P.LineStore.seen c.args.plan.now) (g.P.LineStore.seen c.start.new.plan) (g.O.Sink.view c.args.out.now) (g.O.Sink.view c.start.new.out) g.P.Plan.scratch_after
              c.in_ok-row.field-0 (c.in_ok-row.ensures.starts (plain_context c.args.turn.now).past (is-first c.args.turn.now c.requires.turn)) c.in-Refuse.place c.in-Refuse.side c.in-Refuse.is,
          refused,
        ),
        c.refuse.ensures.nowhere,
      ))) c.refuse.ensures.refused);
  few = IfOk-weaker c.refuse.result (IsRefused (plain_context c.args.turn.now)) (λ (done : Done). done.effects ≤ 5) (λ done refused. omega (arith, refused.few)) c.refuse.ensures.refused;
  rows = ap (λ (l : List Verdict). length l) c.refuse.ensures.nowhere ∙ length-replicate (length c.args.verdicts.now) Nowhere;
}

pub refuse-requires-clause-quiet : goal.refuse-requires-clause-quiet
refuse-requires-clause-quiet g c = untouched_quiet (c.in_ok-row.ensures.starts (plain_context c.args.turn.now).past (is-first c.args.turn.now c.requires.turn)).untouched c.requires.quiet

pub refuse-requires-clause-within : goal.refuse-requires-clause-within
refuse-requires-clause-within g c = subst (λ (d : Decision). IsWithin (length c.args.turn.now.task.patch.now.targets.items) d) c.in-Refuse.is c.in_ok-row.ensures.within

pub refuse-requires-clause-rows : goal.refuse-requires-clause-rows
refuse-requires-clause-rows g c = c.requires.rows

pub refuse-requires-clause-turn : goal.refuse-requires-clause-turn
refuse-requires-clause-turn g c = c.requires.turn

pub returns-in-Try : goal.returns-in-Try
returns-in-Try g c = record {
  does = (
      try_does (plain_context c.args.turn.now) (g.T.Tree.view c.args.tree.now) (g.T.Tree.view c.start.new.tree) (g.P.LineStore.seen c.args.plan.now) (g.P.LineStore.seen c.start.new.plan) (g.O.Sink.view c.args.out.now) (g.O.Sink.view c.start.new.out) g.P.Plan.scratch_after c.requires.quiet
      c.in_ok-row.field-0 (c.in_ok-row.ensures.starts (plain_context c.args.turn.now).past (is-first c.args.turn.now c.requires.turn)) c.in-Try.place c.in-Try.side c.in-Try.is (g.T.Tree.view c.try_at.new.tree) (g.P.LineStore.seen c.try_at.new.plan) (g.O.Sink.view c.try_at.new.out) c.try_at.new.verdicts c.try_at.ensures.keeps
      c.try_at.result c.try_at.ensures.stays c.try_at.ensures.quiet c.try_at.ensures.tidy c.try_at.ensures.cause c.try_at.ensures.whole c.try_at.ensures.broken c.try_at.ensures.order);
  dry = λ dry. untouched_both (c.in_ok-row.ensures.starts (plain_context c.args.turn.now).past (is-first c.args.turn.now c.requires.turn)).untouched (c.try_at.ensures.dry dry);
  rest = g.met.O.Sink.rest_both _ _ _ c.in_ok-row.ensures.rest c.try_at.ensures.rest;
  rows = c.try_at.ensures.rows;
  few = c.try_at.ensures.few;
  placed = (
      let t = plain_context c.args.turn.now in
      IfOk-weaker c.try_at.result _ _
      (λ (done : Done) placed lines told. placed_before t done (length c.args.verdicts.now) c.try_at.new.verdicts (verdicts_over t.options done.row.side t.item.patch lines) (c.in_ok-row.ensures.starts t.past (is-first c.args.turn.now c.requires.turn)).untouched (placed lines told))
      c.try_at.ensures.placed);
}

pub try_at-requires-clause-rows : goal.try_at-requires-clause-rows
try_at-requires-clause-rows g c = c.requires.rows

pub try_at-requires-clause-turn : goal.try_at-requires-clause-turn
try_at-requires-clause-turn g c = c.requires.turn

pub skip-requires-clause-rows : goal.skip-requires-clause-rows
skip-requires-clause-rows g c = c.requires.rows

pub skip-requires-clause-turn : goal.skip-requires-clause-turn
skip-requires-clause-turn g c = c.requires.turn

pub start-requires-clause-task : goal.start-requires-clause-task
start-requires-clause-task g c = c.requires.turn.task

pub start-requires-clause-size : goal.start-requires-clause-size
start-requires-clause-size g c = c.requires.size
