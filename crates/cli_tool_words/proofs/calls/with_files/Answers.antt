use Rattle.std.proofs.Common.{◌∷◌, [], ◌++◌, ◌∙◌, List, ap, map, refl, string_bytes}
use Rattle.std.proofs.lemmas.List.{map_push}
use Rattle.clap.specs.Words.{Text}
use Rattle.cli_tool_words.proofs.Calling.{all_grown, grown_by}
use Rattle.cli_tool_words.proofs.calls.with_files.Goals as goal

pub loop-file-init : goal.loop-file-init
loop-file-init c = ap (λ done. map (λ d. map string_bytes d.items) done ++ map (λ f. map string_bytes c.args.others.now ++ f ∷ []) (map string_bytes c.args.files.now)) c.new-calls.ensures.items

pub loop-file-preserved : goal.loop-file-preserved
loop-file-preserved c =
    let others = map string_bytes c.args.others.now in
    let text = c.as_str.ensures.value ∙ ap string_bytes c.file-item.is in
    grown_by (λ l. map (λ f. others ++ f ∷ []) (map string_bytes l)) (λ s. others ++ string_bytes s ∷ []) (λ y ys. refl) c.args.files.now c.loop-file.file-index c.file-item.result
    (map (λ d. map string_bytes d.items) c.loop-file.calls.items) (map (λ d. map string_bytes d.items) c.push.new.self.items) _ c.loop-file-test.true c.loop-file.invariant
    (ap (map (λ d. map string_bytes d.items)) c.in_ok-push.ensures.items ∙ (map_push (λ d. map string_bytes d.items) c.loop-file.calls.items c.in_ok-call.call
    ∙ ap (λ (call : List Text). map (λ d. map string_bytes d.items) c.loop-file.calls.items ++ call ∷ []) (c.in_ok-call.ensures ∙ ap (λ t. others ++ t ∷ []) text)))

pub returns : goal.returns
returns c = all_grown (λ l. map (λ f. map string_bytes c.args.others.now ++ f ∷ []) (map string_bytes l)) c.args.files.now c.loop-file.file-index (map (λ d. map string_bytes d.items) c.loop-file.calls.items) _ refl c.loop-file-test.false c.loop-file.invariant
