use Rattle.std.proofs.Common.{◌++◌, ◌∙◌, ◌||◌, ap, map, not, refl, string_bytes}
use Rattle.cli_tool_words.specs.Operands.{word_if}
use Rattle.cli_tool_words.specs.Retooling.{is_ended, names_tool, others_in}
use Rattle.cli_tool_words.proofs.Calling.{all_grown}
use Rattle.cli_tool_words.proofs.Retools.{others_next}
use Rattle.cli_tool_words.proofs.retooling.add_others.Goals as goal

pub loop-word-preserved : goal.loop-word-preserved
loop-word-preserved c =
    let text = c.as_str-text.ensures.value ∙ ap string_bytes c.word-item.is in
    let old = map string_bytes c.loop-word.made.items in
    others_next string_bytes c.args.words.now c.loop-word.word-index c.word-item.result c.loop-word.ended c.is_ended-ended.result old (map string_bytes c.add_if.new.words.items) _ c.loop-word-test.true c.loop-word.invariant
    (c.is_ended-ended.ensures ∙ ap (is_ended c.loop-word.ended) text)
    (c.in_ok-add_if.ensures ∙ (ap (λ b. old ++ word_if b c.as_str-text.result.now) c.is_other.ensures ∙ ap (λ w. old ++ word_if (c.is_ended-ended.result || not (names_tool w)) w) text))

pub returns : goal.returns
returns c = all_grown (λ l. others_in c.loop-word.ended (map string_bytes l)) c.args.words.now c.loop-word.word-index (map string_bytes c.loop-word.made.items) _ refl c.loop-word-test.false c.loop-word.invariant
