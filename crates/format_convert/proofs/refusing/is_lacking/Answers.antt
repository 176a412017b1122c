use Rattle.std.proofs.Common.{ap, sym, ◌∙◌}
use Rattle.std.proofs.lemmas.Option.{same_Some}
use Rattle.read_file_patch.specs.declared.FilePatch.{FilePatch}
use Rattle.read_file_patch.specs.PlainPatch.{patch_of}
use Rattle.format_convert.specs.Refusals.{lacks_context}
use Rattle.format_convert.proofs.RowLemmas.{and-none, and-some}
use Rattle.format_convert.proofs.refusing.is_lacking.Goals as goal

pub returns : goal.returns
returns c = λ x at. and-some c.has_kept.result _ _ (c.has_kept.ensures x at)
    (ap (λ (p : FilePatch). lacks_context c.args.form (patch_of c.args.set.now.text p)) (sym (same_Some c.patch_at.result.now x (sym c.patch_at.ensures.is ∙ at))) ∙ sym (c.lacks_context.ensures c.args.set.now.text) ∙ c.if-not-lacks_context.false)

pub returns-then-not-lacks_context : goal.returns-then-not-lacks_context
returns-then-not-lacks_context c = λ x at. and-none _ _
    (ap (λ (p : FilePatch). lacks_context c.args.form (patch_of c.args.set.now.text p)) (sym (same_Some c.patch_at.result.now x (sym c.patch_at.ensures.is ∙ at))) ∙ sym (c.lacks_context.ensures c.args.set.now.text) ∙ c.if-not-lacks_context.true)
