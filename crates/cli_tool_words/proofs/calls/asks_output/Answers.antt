use Rattle.std.proofs.Common.{◌∙◌, codes, rules, string_bytes, tests}
use Rattle.std.proofs.lemmas.Iterator.{YieldsList-from_slice}
use Rattle.std.proofs.lemmas.Iterator.Search.{any_from_yields_List}
use Rattle.patch_options.specs.Forms.{is_front}
use Rattle.cli_tool_words.proofs.Calling.{any_text}
use Rattle.cli_tool_words.proofs.calls.asks_output.Goals as goal

pub returns : goal.returns
unfolding is_front
returns c =
    any_from_yields_List (λ w. is_front (codes "--output-matching") (string_bytes w)) _ _ _ c.any.ensures.ran
    (YieldsList-from_slice c.args.words.now c.iter.ensures.rest) (λ x b q k. search (rules, tests))
    ∙ any_text (is_front (codes "--output-matching")) string_bytes c.args.words.now
