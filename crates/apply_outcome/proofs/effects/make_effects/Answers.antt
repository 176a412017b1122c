use Rattle.std.proofs.Common.{Ok, Err, sym, ◌∙◌}
use Rattle.apply_outcome.specs.Outcome.{effects_of, reject_effects}
use Rattle.apply_outcome.specs.ContextView.{plain_context}
use Rattle.apply_task.proofs.Making.{makes_both, makes_stops, makes_fault, makes_value}
use Rattle.apply_outcome.proofs.Writing.{effects_split, effects_on, effects_count, wrote_as}
use Rattle.apply_task.proofs.Tidy.{tidy_both}
use Rattle.outside.proofs.Exits.{if_ok_none, on_ok_none}
use Rattle.apply_outcome.proofs.Moving.{goes_both, goes_value, goes_fault, five_most}
use Rattle.apply_outcome.proofs.effects.make_effects.Goals as goal

pub returns : goal.returns
returns g c = record {
  makes = λ x side vs session holds.
      let t = plain_context c.args.turn.now in
      let s = c.args.source.now in
      let w = c.args.target.now in
      let first = c.in_ok-made.ensures in
      let second = c.in_ok-put_rejects.ensures in
      makes_value c.in_ok-put_rejects.field-0 c.with_reject.result
      (makes_both c.in_ok-made.made (Ok c.in_ok-put_rejects.field-0) (λ f. effects_of t f s w x) first.goes.passes second.goes.passes (first.makes x side session holds) second.makes
      (λ f h told now made. effects_on t f s w x c.requires.wet c.is_rejected-rejected.result c.args.side c.args.verdicts.now side vs (c.is_rejected-rejected.ensures.rejected x.verdicts session.failed)));
  wrote = λ f x told side vs session. c.with_reject.ensures.wrote ∙ c.in_ok-made.ensures.wrote f x told side session ∙ sym (wrote_as (plain_context c.args.turn.now) f c.args.source.now c.args.target.now x c.requires.wet);
  count = λ f x told side vs session.
      c.with_reject.ensures.effects
      ∙ effects_count (plain_context c.args.turn.now) f c.args.source.now c.args.target.now x c.requires.wet c.is_rejected-rejected.result c.in_ok-made.made.effects (c.is_rejected-rejected.ensures.rejected x.verdicts session.failed)
      (c.in_ok-made.ensures.count f x told side session);
  tidy = tidy_both (g.T.Tree.view c.args.tree.now) (g.T.Tree.view c.write_target.new.tree) (g.T.Tree.view c.put_rejects.new.tree) c.in_ok-made.ensures.goes.passes c.in_ok-made.ensures.tidy c.in_ok-put_rejects.ensures.tidy;
  goes = goes_value c.in_ok-put_rejects.field-0 _ (goes_both c.in_ok-made.made (Ok c.in_ok-put_rejects.field-0) c.in_ok-made.ensures.goes c.in_ok-put_rejects.ensures.goes);
  few = five_most c.is_rejected-rejected.result c.with_reject.result.effects c.in_ok-made.made.effects c.with_reject.ensures.effects c.in_ok-made.ensures.few;
  gone = c.in_ok-put_rejects.ensures.gone;
}

pub returns-in_err-put_rejects : goal.returns-in_err-put_rejects
returns-in_err-put_rejects g c = record {
  makes = λ x side vs session holds.
      let t = plain_context c.args.turn.now in
      let s = c.args.source.now in
      let w = c.args.target.now in
      let first = c.in_ok-made.ensures in
      let second = c.in_err-put_rejects.ensures in
      makes_fault c.in_err-put_rejects.field-0.0 c.from_residual-in_err-put_rejects.result c.from_residual-in_err-put_rejects.ensures.1
      (makes_both c.in_ok-made.made (Err c.in_err-put_rejects.field-0.0) (λ f. effects_of t f s w x) first.goes.passes second.goes.passes (first.makes x side session holds) second.makes
      (λ f h told now made. effects_on t f s w x c.requires.wet c.is_rejected-rejected.result c.args.side c.args.verdicts.now side vs (c.is_rejected-rejected.ensures.rejected x.verdicts session.failed)));
  gone = on_ok_none _ _ c.from_residual-in_err-put_rejects.result c.from_residual-in_err-put_rejects.ensures.1;
  wrote = if_ok_none _ _ c.from_residual-in_err-put_rejects.result c.from_residual-in_err-put_rejects.ensures.1;
  count = if_ok_none _ _ c.from_residual-in_err-put_rejects.result c.from_residual-in_err-put_rejects.ensures.1;
  few = if_ok_none _ _ c.from_residual-in_err-put_rejects.result c.from_residual-in_err-put_rejects.ensures.1;
  tidy = on_ok_none _ _ c.from_residual-in_err-put_rejects.result c.from_residual-in_err-put_rejects.ensures.1;
  goes = goes_fault c.in_err-put_rejects.field-0.0 c.from_residual-in_err-put_rejects.result c.from_residual-in_err-put_rejects.ensures.1 (goes_both c.in_ok-made.made (Err c.in_err-put_rejects.field-0.0) c.in_ok-made.ensures.goes c.in_err-put_rejects.ensures.goes);
}

pub returns-in_err-made : goal.returns-in_err-made
returns-in_err-made g c = record {
  makes = λ x side vs session holds.
      let t = plain_context c.args.turn.now in
      let s = c.args.source.now in
      let w = c.args.target.now in
      makes_stops c.in_err-made.field-0.0 c.from_residual.result (λ f. reject_effects t w x) _ c.from_residual.ensures.1 (c.in_err-made.ensures.makes x side session holds)
      (λ f told. effects_split t f s w x c.requires.wet);
  gone = on_ok_none _ _ c.from_residual.result c.from_residual.ensures.1;
  wrote = if_ok_none _ _ c.from_residual.result c.from_residual.ensures.1;
  count = if_ok_none _ _ c.from_residual.result c.from_residual.ensures.1;
  few = if_ok_none _ _ c.from_residual.result c.from_residual.ensures.1;
  tidy = on_ok_none _ _ c.from_residual.result c.from_residual.ensures.1;
  goes = goes_fault c.in_err-made.field-0.0 c.from_residual.result c.from_residual.ensures.1 c.in_err-made.ensures.goes;
}

pub put_rejects-requires-clause-rows : goal.put_rejects-requires-clause-rows
put_rejects-requires-clause-rows g c = c.requires.rows

pub put_rejects-requires-clause-turn : goal.put_rejects-requires-clause-turn
put_rejects-requires-clause-turn g c = c.requires.turn

pub put_rejects-requires-clause-named : goal.put_rejects-requires-clause-named
put_rejects-requires-clause-named g c = c.requires.named

pub put_rejects-requires-clause-hunks : goal.put_rejects-requires-clause-hunks
put_rejects-requires-clause-hunks g c = c.is_rejected-rejected.ensures.hunks

pub put_rejects-requires-clause-gone : goal.put_rejects-requires-clause-gone
put_rejects-requires-clause-gone g c = c.in_ok-made.ensures.gone

pub put_rejects-requires-clause-quiet : goal.put_rejects-requires-clause-quiet
put_rejects-requires-clause-quiet g c = c.in_ok-made.ensures.goes.quiet

pub with_reject-requires : goal.with_reject-requires
with_reject-requires g c = c.in_ok-made.ensures.few

pub write_target-requires-clause-there : goal.write_target-requires-clause-there
write_target-requires-clause-there g c = c.requires.there

pub write_target-requires-clause-temp : goal.write_target-requires-clause-temp
write_target-requires-clause-temp g c = c.requires.temp

pub write_target-requires-clause-turn : goal.write_target-requires-clause-turn
write_target-requires-clause-turn g c = c.requires.turn

pub write_target-requires-clause-named : goal.write_target-requires-clause-named
write_target-requires-clause-named g c = c.requires.named

pub write_target-requires-clause-source : goal.write_target-requires-clause-source
write_target-requires-clause-source g c = c.requires.source

pub write_target-requires-clause-quiet : goal.write_target-requires-clause-quiet
write_target-requires-clause-quiet g c = c.requires.quiet
