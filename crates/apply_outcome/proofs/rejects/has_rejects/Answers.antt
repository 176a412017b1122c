use Rattle.std.proofs.Common.{◌&&◌, not, sym, ◌∙◌, ap}
use Rattle.read_file_patch.specs.PlainPatch.{PlainChange}
use Rattle.hunk_apply.specs.Session.{is_failed}
use Rattle.patch_options.specs.PlainJob.{PlainOptions, plain_options}
use Rattle.apply_outcome.specs.Outcome.{is_unrejected}
use Rattle.apply_outcome.proofs.Rejecting.{any-counted}
use Rattle.apply_outcome.proofs.rejects.has_rejects.Goals as goal

pub returns-then-some_failed : goal.returns-then-some_failed
returns-then-some_failed c t text same is =
    ap not (c.is_unrejected.ensures text ∙ ap (λ (x : PlainChange). is_unrejected (plain_options c.args.options.now) x) (sym is) ∙ ap (λ (o : PlainOptions). is_unrejected o t.item.patch.change) (sym same)) ∙ sym (ap (λ b. b && not (is_unrejected t.options t.item.patch.change)) (sym (any-counted is_failed c.args.earlier.now.verdicts.now) ∙ sym c.some_failed.ensures ∙ c.if-some_failed.true))

pub returns-else-some_failed : goal.returns-else-some_failed
returns-else-some_failed c t text same is = c.if-some_failed.false ∙ sym (ap (λ b. b && not (is_unrejected t.options t.item.patch.change)) (sym (any-counted is_failed c.args.earlier.now.verdicts.now) ∙ sym c.some_failed.ensures ∙ c.if-some_failed.false))
