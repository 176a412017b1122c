use Rattle.std.proofs.Common.{sym, ◌∙◌, rules, tests}
use Rattle.std.proofs.lemmas.Iterator.{YieldsList-from_slice}
use Rattle.std.proofs.lemmas.Iterator.Search.{any_from_yields_List}
use Rattle.filter_choice.proofs.Ranges.{meets, one-in}
use Rattle.filter_choice.proofs.numbers.is_one_in.Goals as goal

pub returns : goal.returns
returns c =
    let items = c.args.items.now in
    any_from_yields_List (meets c.args.lines.first c.args.lines.last) _ _ _ c.any.ensures.ran
    (YieldsList-from_slice items c.iter.ensures.rest) (λ x b q k. search (rules, tests))
    ∙ sym (one-in c.args.lines.first c.args.lines.last items)
