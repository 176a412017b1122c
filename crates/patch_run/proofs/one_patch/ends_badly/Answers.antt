use Rattle.std.proofs.Common.{◌&&◌, ◌||◌, sym, ap, ◌∙◌}
use Rattle.apply_outcome.specs.ContextView.{plain_context}
use Rattle.apply_start.specs.Skipping.{has_failing}
use Rattle.patch_run.specs.OnePatch.{fails_first}
use Rattle.patch_run.proofs.First.{is-first}
use Rattle.patch_run.proofs.one_patch.ends_badly.Goals as goal

pub returns-then-fails : goal.returns-then-fails
returns-then-fails c = λ x side is.
    let t = plain_context c.args.turn.now in
    sym (ap (λ b. b || fails_first t) (sym (c.fails.ensures x side is) ∙ c.if-fails.true))

pub returns : goal.returns
returns c = λ x side is.
    let t = plain_context c.args.turn.now in
    c.fails_first.ensures
    ∙ ap (λ b. b && has_failing t.options t.item.skipped) (sym (is-first c.args.turn.now c.requires))
    ∙ sym (ap (λ b. b || fails_first t) (sym (c.fails.ensures x side is) ∙ c.if-fails.false))
