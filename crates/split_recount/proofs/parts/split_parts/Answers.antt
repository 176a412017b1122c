use Rattle.std.proofs.Common.{◌≡◌, length, ap, sym, ◌∙◌}
use Rattle.std.proofs.lemmas.Result.{IfOk-weaker}
use Rattle.split_recount.specs.Parts.{parts}
use Rattle.split_recount.proofs.Bounds.{some-if, some-text}
use Rattle.split_recount.proofs.Cutting.{none-parts, one-part}
use Rattle.split_recount.proofs.parts.split_parts.Goals as goal

pub returns-in_default : goal.returns-in_default
returns-in_default c = tt

pub returns-then-end-eq0 : goal.returns-then-end-eq0
returns-then-end-eq0 c = c.new.ensures.items ∙ none-parts c.args.every c.args.set.now c.in-Ok.end (c.in-Ok.ensures.1 ∙ ap length c.text.ensures) c.if-end-eq0.true

pub returns-then-is_empty : goal.returns-then-is_empty
returns-then-is_empty c =
    IfOk-weaker c.whole.result _ (λ spans. spans.items ≡ parts c.args.every c.args.set.now)
    (λ spans e. e ∙ one-part c.args.every c.args.set.now c.in-Ok.end c.patches.result.now (c.in-Ok.ensures.1 ∙ ap length c.text.ensures) c.if-end-eq0.false c.if-is_empty.ensures c.patches.ensures.patches)
    c.whole.ensures

pub cut-requires-clause-text : goal.cut-requires-clause-text
cut-requires-clause-text c = some-text c.in-Ok.end _ (c.in-Ok.ensures.1 ∙ ap length c.text.ensures) c.if-end-eq0.false

pub cut-requires-clause-some : goal.cut-requires-clause-some
cut-requires-clause-some c = some-if c.patches.result.now c.args.set.now.patches c.patches.ensures.patches (sym c.if-is_empty.ensures)

pub cut-requires-clause-end : goal.cut-requires-clause-end
cut-requires-clause-end c = c.in-Ok.ensures.1 ∙ ap length c.text.ensures

pub returns : goal.returns
returns c = c.cut.ensures
