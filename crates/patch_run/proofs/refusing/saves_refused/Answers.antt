use Rattle.std.proofs.Common.{not, sym, ◌∙◌, ap}
use Rattle.apply_outcome.specs.ContextView.{plain_context}
use Rattle.patch_run.proofs.Refused.{saves_dry, saves_bare, saves_rest}
use Rattle.patch_run.proofs.refusing.saves_refused.Goals as goal

pub returns-then-turn : goal.returns-then-turn
returns-then-turn c = sym (saves_dry (plain_context c.args.turn.now) c.if-turn.true)

pub returns-then-is_bare : goal.returns-then-is_bare
returns-then-is_bare c = sym (saves_bare (plain_context c.args.turn.now) c.if-turn.false (sym (c.is_bare.ensures c.args.turn.now.task.set.now.text) ∙ c.if-is_bare.true))

pub returns : goal.returns
returns c =
    let text = c.args.turn.now.task.set.now.text in
    ap (λ b. not b) (c.is_unrejected.ensures text) ∙ sym (saves_rest (plain_context c.args.turn.now) c.if-turn.false (sym (c.is_bare.ensures text) ∙ c.if-is_bare.false))

pub is_bare-requires : goal.is_bare-requires
is_bare-requires c = c.requires.turn.task.fit.hunks
