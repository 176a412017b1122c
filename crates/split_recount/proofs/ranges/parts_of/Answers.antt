use Rattle.split_recount.proofs.Stated.{parts-plus, parts-new, parts-end, parts-all}
use Rattle.split_recount.proofs.ranges.parts_of.Goals as goal

pub returns-in_default-after_prefix : goal.returns-in_default-after_prefix
returns-in_default-after_prefix c = parts-plus _ c.in-Some.ensures c.in-Some-range_of.ensures c.in_default-after_prefix.ensures

pub returns-in_default-range_of-2 : goal.returns-in_default-range_of-2
returns-in_default-range_of-2 c = parts-new _ c.in-Some.ensures c.in-Some-range_of.ensures c.in-Some-after_prefix.ensures c.in_default-range_of-2.ensures

pub returns-in_default-after_prefix-2 : goal.returns-in_default-after_prefix-2
returns-in_default-after_prefix-2 c = parts-end _ c.in-Some.ensures c.in-Some-range_of.ensures c.in-Some-after_prefix.ensures c.in-Some-range_of-2.ensures c.in_default-after_prefix-2.ensures

pub returns : goal.returns
returns c = parts-all _ c.in-Some.ensures c.in-Some-range_of.ensures c.in-Some-after_prefix.ensures c.in-Some-range_of-2.ensures c.in-Some-after_prefix-2.ensures
