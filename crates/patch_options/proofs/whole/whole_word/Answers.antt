use Rattle.std.proofs.Common.{◌∙◌, ap, map, option_map}
use Rattle.std.proofs.lemmas.Result.{IfOk-weaker}
use Rattle.patch_options.specs.Whole.{spelled, whole_by, whole_word}
use Rattle.patch_options.proofs.whole.whole_word.Goals as goal

pub returns-in-Some : goal.returns-in-Some
unfolding whole_word
returns-in-Some c =
    let names = map (λ n. n.now) c.args.names.now in
    let word = c.args.word.now in
    IfOk-weaker c.spelled.result _ _ (λ whole is. is ∙ (ap (λ name. spelled name (option_map (λ s. s.now) c.in-Some.value)) c.whole_name.ensures ∙ ap (whole_by names word) c.in-Some.ensures)) c.spelled.ensures

pub returns-in-None : goal.returns-in-None
unfolding whole_word
returns-in-None c =
    let names = map (λ n. n.now) c.args.names.now in
    let word = c.args.word.now in
    IfOk-weaker c.from_str.result _ _ (λ whole is. is ∙ ap (whole_by names word) c.in-None.ensures) c.from_str.ensures.ok
