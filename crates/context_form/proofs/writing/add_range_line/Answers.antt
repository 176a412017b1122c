use Rattle.std.proofs.Common.{[], ◌∷◌, ◌++◌, length, length-append, ap, ◌∙◌, arith}
use Rattle.context_form.proofs.StepLemmas.{before-length, behind-length, four-pieces}
use Rattle.hunk_core.specs.Spans.{span_text}
use Rattle.context_form.specs.Ranges.{before_range, behind_range}
use Rattle.context_form.proofs.writing.add_range_line.Goals as goal

pub add_span-requires : goal.add_span-requires
add_span-requires c = omega (arith, c.requires, simp length-append at (ap length c.add_piece.ensures), ap length c.before-2.ensures ∙ before-length c.args.part)

pub add_piece-requires-2 : goal.add_piece-requires-2
add_piece-requires-2 c = (omega arith, omega (arith, c.requires, simp length-append at (ap length c.add_piece.ensures), ap length c.before-2.ensures ∙ before-length c.args.part, c.add_span.ensures.few, ap length c.behind.ensures ∙ behind-length c.args.part))

pub add_piece-requires-3 : goal.add_piece-requires-3
add_piece-requires-3 c = (omega arith, omega (arith, c.requires, simp length-append at (ap length c.add_piece.ensures), ap length c.before-2.ensures ∙ before-length c.args.part, c.add_span.ensures.few, simp length-append at (ap length c.add_piece-2.ensures), ap length c.behind.ensures ∙ behind-length c.args.part))

pub returns : goal.returns
returns c = four-pieces c.args.gathered.now.items (before_range c.args.part) (span_text c.args.start c.args.count) (32 ∷ behind_range c.args.part) (10 ∷ []) _ _ _ _ (c.add_piece.ensures ∙ ap (λ xs. c.args.gathered.now.items ++ xs) c.before-2.ensures) c.add_span.ensures.text (c.add_piece-2.ensures ∙ ap (λ xs. c.add_span.new.gathered.items ++ xs) c.behind.ensures) c.add_piece-3.ensures
