use Rattle.std.proofs.Common.{sym, ap, ◌∙◌}
use Rattle.std.specs.Prelude.{not}
use Rattle.patch_filters.proofs.Lined.{none-at-all, none-with-line}
use Rattle.patch_filters.proofs.list.is_none_with_line.Goals as goal

pub returns-then-is_empty : goal.returns-then-is_empty
returns-then-is_empty c = λ text. none-at-all text c.args.side c.args.all.now (sym c.is_empty.ensures ∙ c.if-is_empty.true)

pub returns : goal.returns
returns c = λ text. ap not c.is_one_with_line.ensures ∙ none-with-line text c.args.side c.args.all.now (sym c.is_empty.ensures ∙ c.if-is_empty.false)
