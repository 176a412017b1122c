use Rattle.std.proofs.Common.{rules, tests}
use Rattle.std.proofs.lemmas.Iterator.{YieldsList-from_slice}
use Rattle.std.proofs.lemmas.Iterator.Search.{any_from_yields_List}
use Rattle.read_file_patch.specs.Targets.{is_reserved}
use Rattle.patch_set.proofs.refusals.any_reserved.Goals as goal

pub returns : goal.returns
returns c = any_from_yields_List is_reserved _ _ _ c.any.ensures.ran (YieldsList-from_slice c.args.targets.now c.iter.ensures.rest) (λ x b q k. search (rules, tests))
