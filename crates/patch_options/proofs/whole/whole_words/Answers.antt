use Rattle.std.proofs.Common.{◌∙◌, ◌&&◌, ◌++◌, not, true, ap, bytes_eq, codes, map, string_bytes}
use Rattle.std.proofs.lemmas.List.{map_push}
use Rattle.patch_options.specs.Simple.{plain_table}
use Rattle.patch_options.specs.Whole.{long_names, whole_words}
use Rattle.patch_options.proofs.LongNames.{left_in, next_in, word_left, none_left}
use Rattle.patch_options.proofs.whole.whole_words.Goals as goal

pub loop-word-init : goal.loop-word-init
unfolding whole_words
loop-word-init c = ap (λ done. map string_bytes done ++ left_in true (long_names (plain_table c.args.table.now)) (map string_bytes c.args.words.now)) c.new-whole.ensures.items

pub loop-word-preserved : goal.loop-word-preserved
loop-word-preserved c =
    let names = long_names (plain_table c.args.table.now) in
    let is_open = c.stays_open-is_open.result in
    let text = c.as_str-text.ensures.value ∙ ap string_bytes c.word-item.is in
    word_left string_bytes names c.args.words.now c.loop-word.word-index c.word-item.result (map string_bytes c.loop-word.whole.items) (map string_bytes c.push.new.self.items) _
    (string_bytes c.in_ok-next_word.field-0) c.loop-word.is_open is_open c.loop-word-test.true
    (c.stays_open-is_open.ensures ∙ ap (λ t. c.loop-word.is_open && not (bytes_eq t (codes "--"))) text)
    (c.in_ok-next_word.ensures ∙ (ap (λ ns. next_in is_open ns c.as_str-text.result.now) (ap (map (λ n. n.now)) c.deref.ensures.value ∙ c.in_ok-names.ensures) ∙ ap (next_in is_open names) text))
    (ap (map string_bytes) c.in_ok-push.ensures.items ∙ map_push string_bytes c.loop-word.whole.items c.in_ok-next_word.field-0)
    c.loop-word.invariant

pub returns : goal.returns
returns c =
    none_left string_bytes (long_names (plain_table c.args.table.now)) c.args.words.now c.loop-word.word-index (map string_bytes c.loop-word.whole.items) _ c.loop-word.is_open c.loop-word-test.false c.loop-word.invariant
