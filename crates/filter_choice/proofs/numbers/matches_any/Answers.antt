use Rattle.std.proofs.Common.{◌∙◌, rules, tests}
use Rattle.std.proofs.lemmas.Iterator.{YieldsList-from_slice}
use Rattle.std.proofs.lemmas.Iterator.Search.{any_from_yields_List}
use Rattle.glob_match.specs.Matching.{does_match}
use Rattle.filter_choice.proofs.Rows.{any-map}
use Rattle.filter_choice.proofs.numbers.matches_any.Goals as goal

pub returns : goal.returns
returns c =
    any_from_yields_List (λ p. does_match p.items c.args.name.now) _ _ _ c.any.ensures.ran
    (YieldsList-from_slice c.args.patterns.now c.iter.ensures.rest) (λ x b q k. search (rules, tests))
    ∙ any-map (λ p. does_match p c.args.name.now) (λ p. p.items) c.args.patterns.now
