use Rattle.std.proofs.Common.{List, ap, bytes_eq, not, sym, ℕ, ◌∙◌}
use Rattle.series_stack.proofs.Saving.{is-apart, not-lasting, not-same}
use Rattle.series_stack.proofs.save.may_be_saved.Goals as goal

pub returns-then-is_temp : goal.returns-then-is_temp
returns-then-is_temp c = not-lasting _ _ _ (sym c.if-is_temp.true ∙ c.is_temp.ensures.text)

pub returns : goal.returns
returns c = is-apart _ _ _ _ (sym c.if-ne.false ∙ c.ne.ensures ∙ ap (λ (l : List ℕ). not (bytes_eq l c.args.text.now)) (c.as_bytes.ensures.value ∙ c.text.ensures.text)) (sym c.if-is_temp.false ∙ c.is_temp.ensures.text) c.is_of_stack.ensures

pub returns-then-ne : goal.returns-then-ne
returns-then-ne c = not-same _ _ (sym c.if-ne.true ∙ c.ne.ensures ∙ ap (λ (l : List ℕ). not (bytes_eq l c.args.text.now)) (c.as_bytes.ensures.value ∙ c.text.ensures.text))
