use Rattle.std.proofs.Common.{◌&&◌, not, bytes_eq, sym, ◌∙◌, ap}
use Rattle.apply_outcome.proofs.effects.is_renamed.Goals as goal

pub returns-then-not-renames-clause-renamed : goal.returns-then-not-renames-clause-renamed
returns-then-not-renames-clause-renamed c = sym (ap (λ b. b && not (bytes_eq c.args.source.now.name c.args.target.now.name)) (sym (c.renames.ensures c.args.turn.now.task.set.now.text) ∙ c.if-not-renames.true))

pub returns-clause-renamed : goal.returns-clause-renamed
returns-clause-renamed c =
    ap not c.is_same.ensures
    ∙ sym (ap (λ b. b && not (bytes_eq c.args.source.now.name c.args.target.now.name)) (sym (c.renames.ensures c.args.turn.now.task.set.now.text) ∙ c.if-not-renames.false))

pub returns-clause-renames : goal.returns-clause-renames
returns-clause-renames c is = sym (c.renames.ensures c.args.turn.now.task.set.now.text) ∙ c.if-not-renames.false
