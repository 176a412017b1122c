use Rattle.std.proofs.Common.{◌∙◌, rules, tests}
use Rattle.std.proofs.lemmas.Iterator.{YieldsList-from_slice}
use Rattle.std.proofs.lemmas.Iterator.Search.{any_from_yields_List}
use Rattle.outside.specs.Names.{is_control}
use Rattle.outside.proofs.name.has_control.Goals as goal

pub returns : goal.returns
returns c = any_from_yields_List is_control _ _ _ c.any.ensures.ran (YieldsList-from_slice c.args.text.now (c.iter.ensures.rest ∙ c.as_bytes.ensures.value)) (λ x b q k. search (rules, tests))
