use Rattle.std.proofs.Common.{count_by, ap, ◌∙◌}
use Rattle.hunk_core.specs.declared.HunkLine.{HunkLine}
use Rattle.hunk_core.specs.PlainHunk.{body_of}
use Rattle.hunk_core.specs.Turned.{is_keep}
use Rattle.context_form.proofs.StepLemmas.{is-none, is-some, size-kept, size-own}
use Rattle.context_form.proofs.hunks.size_beside.Goals as goal

pub returns-then-is_empty : goal.returns-then-is_empty
returns-then-is_empty c text = c.kept_lines.ensures.is ∙ ap (count_by (λ (l : HunkLine). is_keep l.mark)) c.deref.ensures.value ∙ size-kept text c.args.part.now.lines c.args.partner.now.lines.items (is-none c.args.part.now.lines.len c.if-is_empty.ensures)

pub returns-else-is_empty : goal.returns-else-is_empty
returns-else-is_empty c text = c.len.ensures ∙ size-own text c.args.part.now.lines (body_of text c.args.partner.now.lines.items) (is-some c.args.part.now.lines.len c.if-is_empty.ensures)
