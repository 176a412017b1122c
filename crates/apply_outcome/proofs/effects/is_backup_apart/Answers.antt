use Rattle.std.proofs.Common.{not, sym, ◌∙◌, ap}
use Rattle.std.proofs.lemmas.Bool.{false≢true}
use Rattle.apply_outcome.specs.ContextView.{plain_context}
use Rattle.apply_outcome.proofs.TestByTest.{apart_moved, apart_put}
use Rattle.apply_outcome.proofs.effects.is_backup_apart.Goals as goal

pub returns-then-renames-clause-apart : goal.returns-then-renames-clause-apart
returns-then-renames-clause-apart c =
    ap not c.is_same-then-renames.ensures
    ∙ sym (apart_moved (plain_context c.args.turn.now) c.args.target.now c.args.other.now (sym c.is_same.ensures ∙ c.if-is_same.false) (sym (c.renames.ensures c.args.turn.now.task.set.now.text) ∙ c.if-renames.true))

pub returns-else-renames-clause-apart : goal.returns-else-renames-clause-apart
returns-else-renames-clause-apart c =
    sym (apart_put (plain_context c.args.turn.now) c.args.target.now c.args.other.now (sym c.is_same.ensures ∙ c.if-is_same.false) (sym (c.renames.ensures c.args.turn.now.task.set.now.text) ∙ c.if-renames.false))

pub returns-else-renames-clause-other : goal.returns-else-renames-clause-other
returns-else-renames-clause-other c is moves = absurd (false≢true (sym (sym (c.renames.ensures c.args.turn.now.task.set.now.text) ∙ c.if-renames.false) ∙ moves))
