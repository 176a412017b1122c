use Rattle.std.proofs.Common.{◌∙◌, rules, tests}
use Rattle.std.specs.List.{list_any}
use Rattle.std.proofs.lemmas.Iterator.{YieldsList-from_slice}
use Rattle.std.proofs.lemmas.Iterator.Search.{any_from_yields_List}
use Rattle.patch_options.specs.Simple.{plain_word}
use Rattle.cli_tool_words.specs.Operands.{has_letter}
use Rattle.cli_tool_words.proofs.Calling.{any_row}
use Rattle.cli_tool_words.proofs.operands.is_valued_letter.Goals as goal

pub returns : goal.returns
returns c =
    any_from_yields_List (λ g. list_any (λ w. has_letter c.args.byte (plain_word w)) g.words.now) _ _ _ c.any.ensures.ran
    (YieldsList-from_slice c.args.table.now c.iter.ensures.rest) (λ x b q k. search (rules, tests))
    ∙ any_row (has_letter c.args.byte) c.args.table.now
