use Rattle.std.proofs.Common.{sym, ap, ◌∙◌}
use Rattle.read_git_order.specs.Moving.{has_moved}
use Rattle.read_git_order.proofs.Same.{nobody-late}
use Rattle.read_git_order.proofs.reading.moved.Goals as goal

pub returns-then-not-has_moved-clause-late : goal.returns-then-not-has_moved-clause-late
returns-then-not-has_moved-clause-late c =
    sym (nobody-late c.args.reverse c.args.set.now (ap has_moved (sym c.patches-patches.ensures.patches) ∙ sym c.has_moved.ensures ∙ c.if-not-has_moved.true))
