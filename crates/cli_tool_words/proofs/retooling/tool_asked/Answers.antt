use Rattle.std.proofs.Common.{◌∙◌, ap, cond, string_bytes}
use Rattle.cli_tool_words.specs.Retooling.{is_ended, tool_by}
use Rattle.cli_tool_words.proofs.Retools.{all_asked, asked_next}
use Rattle.cli_tool_words.proofs.retooling.tool_asked.Goals as goal

pub loop-word-preserved : goal.loop-word-preserved
loop-word-preserved c =
    let text = c.as_str-text.ensures.value ∙ ap string_bytes c.word-item.is in
    asked_next string_bytes c.args.words.now c.loop-word.word-index c.word-item.result c.loop-word.ended c.is_ended-ended.result c.loop-word.asked c.tool_unless-asked.result _ c.loop-word-test.true c.loop-word.invariant
    (c.is_ended-ended.ensures ∙ ap (is_ended c.loop-word.ended) text)
    (c.tool_unless-asked.ensures ∙ ap (λ w. cond c.is_ended-ended.result c.loop-word.asked (tool_by c.loop-word.asked w)) text)

pub returns : goal.returns
returns c = all_asked string_bytes c.args.words.now c.loop-word.word-index c.loop-word.ended c.loop-word.asked _ c.loop-word-test.false c.loop-word.invariant
