use Rattle.std.proofs.Common.{◌∷◌, [], ◌++◌, ◌∙◌, ap, map, refl, string_bytes}
use Rattle.cli_tool_words.proofs.Calling.{all_grown, grown_by}
use Rattle.cli_tool_words.proofs.retooling.copied.Goals as goal

pub loop-word-init : goal.loop-word-init
loop-word-init c = ap (λ done. map string_bytes done ++ map string_bytes c.args.words.now) c.new-copy.ensures.items

pub loop-word-preserved : goal.loop-word-preserved
loop-word-preserved c =
    let text = c.as_str.ensures.value ∙ ap string_bytes c.word-item.is in
    grown_by (map string_bytes) string_bytes (λ y ys. refl) c.args.words.now c.loop-word.word-index c.word-item.result (map string_bytes c.loop-word.copy.items) (map string_bytes c.add_if.new.words.items) _ c.loop-word-test.true c.loop-word.invariant
    (c.in_ok-add_if.ensures ∙ ap (λ t. map string_bytes c.loop-word.copy.items ++ t ∷ []) text)

pub returns : goal.returns
returns c = all_grown (map string_bytes) c.args.words.now c.loop-word.word-index (map string_bytes c.loop-word.copy.items) _ refl c.loop-word-test.false c.loop-word.invariant
