use Rattle.std.proofs.Common.{sym, ◌∙◌}
use Rattle.apply_outcome.specs.ContextView.{plain_context}
use Rattle.apply_outcome.proofs.TestByTest.{taken_bare}
use Rattle.apply_outcome.proofs.saying.is_taken_away.Goals as goal

pub returns-then-is_bare : goal.returns-then-is_bare
returns-then-is_bare c x side is =
    let text = c.args.turn.now.task.set.now.text in
    c.acts_deleted.ensures text
    ∙ sym (taken_bare (plain_context c.args.turn.now) x c.args.side side (sym c.takes_files.ensures ∙ c.if-not-takes_files.false) (sym (c.is_bare.ensures text) ∙ c.if-is_bare.true))
