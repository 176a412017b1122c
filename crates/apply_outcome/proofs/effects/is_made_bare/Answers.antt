use Rattle.std.proofs.Common.{ap, sym, ◌∙◌}
use Rattle.apply_task.specs.Asking.{is_set}
use Rattle.apply_outcome.specs.ContextView.{plain_context}
use Rattle.apply_outcome.proofs.TestByTest.{made_new, made_moved, made_gone, made_moded}
use Rattle.apply_outcome.proofs.effects.is_made_bare.Goals as goal

pub returns-then-acts_new : goal.returns-then-acts_new
returns-then-acts_new c x side is = sym (made_new (plain_context c.args.turn.now) x c.args.side side (sym (c.acts_new.ensures c.args.turn.now.task.set.now.text) ∙ c.if-acts_new.true))

pub returns-then-is_moved : goal.returns-then-is_moved
returns-then-is_moved c x side is =
    sym (made_moved (plain_context c.args.turn.now) x c.args.side side (sym (c.acts_new.ensures c.args.turn.now.task.set.now.text) ∙ c.if-acts_new.false) (sym c.is_moved.ensures ∙ c.if-is_moved.true))

pub returns-then-acts_deleted : goal.returns-then-acts_deleted
returns-then-acts_deleted c x side is =
    c.is_emptied.ensures x side is
    ∙ sym (made_gone (plain_context c.args.turn.now) x c.args.side side (sym (c.acts_new.ensures c.args.turn.now.task.set.now.text) ∙ c.if-acts_new.false) (sym c.is_moved.ensures ∙ c.if-is_moved.false) (sym (c.acts_deleted.ensures c.args.turn.now.task.set.now.text) ∙ c.if-acts_deleted.true))

pub returns : goal.returns
returns c x side is =
    c.is_set.ensures
    ∙ ap is_set c.mode_asked.ensures
    ∙ sym (made_moded (plain_context c.args.turn.now) x c.args.side side (sym (c.acts_new.ensures c.args.turn.now.task.set.now.text) ∙ c.if-acts_new.false) (sym c.is_moved.ensures ∙ c.if-is_moved.false) (sym (c.acts_deleted.ensures c.args.turn.now.task.set.now.text) ∙ c.if-acts_deleted.false))
