use Rattle.std.proofs.Common.{rules, tests, bytes_eq}
use Rattle.std.proofs.lemmas.Iterator.Search.{any_from_yields_List}
use Rattle.std.proofs.lemmas.Iterator.Splits.{YieldsList-from_slice_split}
use Rattle.patch_header.specs.Values.{is_white}
use Rattle.apply_start.proofs.word.line_has_word.Goals as goal

pub returns : goal.returns
returns c =
    any_from_yields_List (bytes_eq c.args.word.now) _ _ _ c.any.ensures.ran
    (YieldsList-from_slice_split _ is_white c.args.line.now c.split.ensures.rest c.split.ensures.done c.split.ensures.closure (λ x r q k. search (rules, tests)))
    (λ x b q k. search (rules, tests))
