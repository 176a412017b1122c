use Rattle.std.proofs.Common.{sym, ap, ◌∙◌, rules, tests}
use Rattle.std.specs.Option.{option_map}
use Rattle.std.proofs.lemmas.Iterator.{YieldsList-from_slice}
use Rattle.std.proofs.lemmas.Iterator.Search.{find_from_yields_List}
use Rattle.patch_set.specs.Looks.{has_script}
use Rattle.patch_set.proofs.refusals.first_script.Goals as goal

pub returns : goal.returns
returns c =
    ap (λ r. option_map (λ p. p.header.opening) (option_map (λ x. x.now) r)) (sym c.in_ok-patch.was)
    ∙ ap (option_map (λ p. p.header.opening)) (find_from_yields_List has_script _ _ c.find.result c.find.ensures.ran (YieldsList-from_slice c.args.patches.now c.iter.ensures.rest) (λ x b q k. search (rules, tests)))

pub returns-in_err-patch : goal.returns-in_err-patch
returns-in_err-patch c =
    c.from_residual.ensures ∙ ap (λ r. option_map (λ p. p.header.opening) (option_map (λ x. x.now) r)) (sym c.in_err-patch.was)
    ∙ ap (option_map (λ p. p.header.opening)) (find_from_yields_List has_script _ _ c.find.result c.find.ensures.ran (YieldsList-from_slice c.args.patches.now c.iter.ensures.rest) (λ x b q k. search (rules, tests)))
