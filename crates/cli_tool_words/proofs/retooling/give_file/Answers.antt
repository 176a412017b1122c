use Rattle.std.proofs.Common.{◌∙◌, ◌&&◌, ap, not, string_bytes, sym}
use Rattle.patch_options.specs.Simple.{plain_table}
use Rattle.cli_tool_words.specs.Retooling.{gives_file, is_ended}
use Rattle.cli_tool_words.proofs.Retools.{file_found, file_next, none_gives}
use Rattle.cli_tool_words.proofs.retooling.give_file.Goals as goal

pub loop-word-preserved : goal.loop-word-preserved
loop-word-preserved c =
    let text = c.as_str-text.ensures.value ∙ ap string_bytes c.word-item.is in
    let table = plain_table c.args.table.now in
    file_next string_bytes table c.args.words.now c.loop-word.word-index c.word-item.result c.loop-word.ended c.is_ended-ended.result _ c.loop-word-test.true c.loop-word.invariant
    (c.is_ended-ended.ensures ∙ ap (is_ended c.loop-word.ended) text)
    (sym (ap (λ w. not c.is_ended-ended.result && gives_file table w) text) ∙ (sym c.is_file_word.ensures ∙ c.if-is_file_word.false))

pub returns-then-is_file_word : goal.returns-then-is_file_word
returns-then-is_file_word c =
    let text = c.as_str-text.ensures.value ∙ ap string_bytes c.word-item.is in
    let table = plain_table c.args.table.now in
    sym (file_found string_bytes table c.args.words.now c.loop-word.word-index c.word-item.result c.loop-word.ended c.is_ended-ended.result _ c.loop-word-test.true c.loop-word.invariant
    (c.is_ended-ended.ensures ∙ ap (is_ended c.loop-word.ended) text)
    (sym (ap (λ w. not c.is_ended-ended.result && gives_file table w) text) ∙ (sym c.is_file_word.ensures ∙ c.if-is_file_word.true)))

pub returns : goal.returns
returns c = none_gives string_bytes (plain_table c.args.table.now) c.args.words.now c.loop-word.word-index c.loop-word.ended _ c.loop-word-test.false c.loop-word.invariant
