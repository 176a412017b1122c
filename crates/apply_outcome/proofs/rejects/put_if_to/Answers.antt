use Rattle.std.proofs.Common.{◌&&◌, not, Ok, refl, sym, ◌∙◌, ap}
use Rattle.std.specs.Option.{option_copied}
use Rattle.patch_options.specs.PlainJob.{plain_options}
use Rattle.outside.proofs.Writing.{writes_none, writes_is}
use Rattle.apply_task.specs.Contexts.{PlainContext}
use Rattle.apply_outcome.specs.Outcome.{has_rejects}
use Rattle.apply_task.specs.Ready.{alone}
use Rattle.apply_outcome.proofs.Rejecting.{no_text, own_text, other_text, no_writer, not_both, both, rejected_hunks}
use Rattle.apply_outcome.proofs.rejects.put_if_to.Goals as goal
use Rattle.apply_outcome.proofs.rejects.put_if_to.Goals.{then-turn-via-then-turn, then-turn-via-else-turn+then-not-has_rejects}

pub put_own-requires-clause-named : goal.put_own-requires-clause-named
put_own-requires-clause-named g c = c.written_by.ensures.named c.requires.turn.task.ready.output c.requires.fit.named c.in-Some.target.now (ap option_copied c.in-Some.is)

pub put_own-requires-clause-hunks : goal.put_own-requires-clause-hunks
put_own-requires-clause-hunks g c =
    let turn = c.args.turn.now in
    let e = c.args.earlier.now in
    let t : PlainContext = alone (plain_options turn.task.options.now) turn.task.set.now e.patch.now in
    rejected_hunks t.options turn.task.set.now.text e.patch.now.change _ (sym (c.has_rejects.ensures t turn.task.set.now.text refl refl) ∙ c.if-not-has_rejects.false)

pub returns-then-turn : goal.returns-then-turn
returns-then-turn g c = record {
  writes = (
      let turn = c.args.turn.now in
      let e = c.args.earlier.now in
      let t : PlainContext = alone (plain_options turn.task.options.now) turn.task.set.now e.patch.now in
      let out = g.O.Sink.view c.args.out.now in
      writes_is (Ok tt) _ (writes_none out tt) (no_text t e.row e.verdicts.now c.args.name.now (elim c.then-turn.branch [
        | then-turn-via-then-turn w ↦ not_both (has_rejects t e.verdicts.now) t.options.dry_run w.if-turn.true
        | then-turn-via-else-turn+then-not-has_rejects w ↦ ap (λ b. b && not t.options.dry_run) (sym (w.has_rejects.ensures t turn.task.set.now.text refl refl) ∙ w.if-not-has_rejects.true)
      ])));
  rest = g.met.O.Sink.rest_none _;
}

pub returns-then-is_same : goal.returns-then-is_same
returns-then-is_same g c = record {
  writes = (
      let turn = c.args.turn.now in
      let e = c.args.earlier.now in
      let t : PlainContext = alone (plain_options turn.task.options.now) turn.task.set.now e.patch.now in
      writes_is c.put_own.result _ c.put_own.ensures.writes (own_text t e.row e.verdicts.now c.args.name.now c.in-Some.target.now
      (both (has_rejects t e.verdicts.now) t.options.dry_run (sym (c.has_rejects.ensures t turn.task.set.now.text refl refl) ∙ c.if-not-has_rejects.false) c.if-turn.false)
      (sym (c.written_by.ensures.target t.options refl) ∙ ap option_copied c.in-Some.is)
      (sym c.is_same.ensures ∙ c.if-is_same.true)));
  rest = c.put_own.ensures.rest;
}

pub returns-else-is_same : goal.returns-else-is_same
returns-else-is_same g c = record {
  writes = (
      let turn = c.args.turn.now in
      let e = c.args.earlier.now in
      let t : PlainContext = alone (plain_options turn.task.options.now) turn.task.set.now e.patch.now in
      writes_is (Ok tt) _ (writes_none (g.O.Sink.view c.args.out.now) tt) (other_text t e.row e.verdicts.now c.args.name.now c.in-Some.target.now
      (sym (c.written_by.ensures.target t.options refl) ∙ ap option_copied c.in-Some.is)
      (sym c.is_same.ensures ∙ c.if-is_same.false)));
  rest = g.met.O.Sink.rest_none _;
}

pub returns-in-None : goal.returns-in-None
returns-in-None g c = record {
  writes = (
      let turn = c.args.turn.now in
      let e = c.args.earlier.now in
      let t : PlainContext = alone (plain_options turn.task.options.now) turn.task.set.now e.patch.now in
      writes_is (Ok tt) _ (writes_none (g.O.Sink.view c.args.out.now) tt) (no_writer t e.row e.verdicts.now c.args.name.now (sym (c.written_by.ensures.target t.options refl) ∙ ap option_copied c.in-None.is)));
  rest = g.met.O.Sink.rest_none _;
}

pub put_own-requires-clause-rows : goal.put_own-requires-clause-rows
put_own-requires-clause-rows g c = c.requires.rows

pub put_own-requires-clause-fit : goal.put_own-requires-clause-fit
put_own-requires-clause-fit g c = c.requires.fit

pub put_own-requires-clause-turn : goal.put_own-requires-clause-turn
put_own-requires-clause-turn g c = c.requires.turn
