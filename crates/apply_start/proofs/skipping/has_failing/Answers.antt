use Rattle.std.proofs.Common.{rules, tests}
use Rattle.std.proofs.lemmas.Iterator.{YieldsList-from_slice}
use Rattle.std.proofs.lemmas.Iterator.Search.{any_from_yields_List}
use Rattle.patch_options.specs.PlainJob.{plain_options}
use Rattle.patch_set.specs.declared.skipped.BinaryChange.{BinaryChange}
use Rattle.apply_start.specs.Skipping.{is_failing}
use Rattle.apply_start.proofs.skipping.has_failing.Goals as goal

pub returns : goal.returns
returns c =
    any_from_yields_List (λ (change : BinaryChange). is_failing (plain_options c.args.options.now) change) _ _ _ c.any.ensures.ran (YieldsList-from_slice c.args.changes.now c.iter.ensures.rest) (λ x b q k. search (rules, tests))
