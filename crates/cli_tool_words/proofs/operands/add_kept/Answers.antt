use Rattle.std.proofs.Common.{◌++◌, ◌∙◌, map, ap, refl, string_bytes}
use Rattle.patch_options.specs.Simple.{plain_table}
use Rattle.cli_tool_words.specs.Operands.{behind, is_file, is_kept, kept_of, still_leads, word_if}
use Rattle.cli_tool_words.proofs.Calling.{all_grown, kept_next}
use Rattle.cli_tool_words.proofs.operands.add_kept.Goals as goal

pub loop-word-preserved : goal.loop-word-preserved
loop-word-preserved c =
    let table = plain_table c.args.table.now in
    let text = c.as_str-text.ensures.value ∙ ap string_bytes c.word-item.is in
    kept_next string_bytes c.args.files table c.args.words.now c.loop-word.word-index c.word-item.result (map string_bytes c.loop-word.kept.items) (map string_bytes c.add_if.new.words.items) _
    c.loop-word.leads c.still_leads-leads.result c.loop-word.next c.behind-next.result c.loop-word-test.true c.loop-word.invariant
    (c.in_ok-add_if.ensures ∙ (ap (λ b. map string_bytes c.loop-word.kept.items ++ word_if b c.as_str-text.result.now) (c.is_kept.ensures ∙ ap (is_kept c.args.files) c.is_file.ensures)
    ∙ ap (λ t. map string_bytes c.loop-word.kept.items ++ word_if (is_kept c.args.files (is_file c.loop-word.leads c.loop-word.next t)) t) text))
    (c.still_leads-leads.ensures ∙ ap (still_leads c.loop-word.leads c.loop-word.next) text)
    (c.behind-next.ensures ∙ ap (behind table c.loop-word.next) text)

pub returns : goal.returns
returns c =
    all_grown (λ l. kept_of c.args.files (plain_table c.args.table.now) c.loop-word.leads c.loop-word.next (map string_bytes l)) c.args.words.now c.loop-word.word-index (map string_bytes c.loop-word.kept.items) _ refl c.loop-word-test.false c.loop-word.invariant
