use Rattle.std.proofs.Common.{◌≡◌, ◌∷◌, [], ◌++◌, ◌∙◌, ◌≤◌, true, List, ap, length, map, string_bytes, subst, sym}
use Rattle.std.proofs.lemmas.List.{length-map}
use Rattle.std.proofs.lemmas.Result.{IfOk-weaker}
use Rattle.clap.specs.Words.{Text}
use Rattle.cli_tool_words.specs.Calls.{operands_of, others_of}
use Rattle.cli_tool_words.proofs.Calling.{many_files}
use Rattle.cli_tool_words.proofs.calls.calls_behind.Goals as goal

pub returns : goal.returns
returns c =
    let rest = map string_bytes c.args.rest.now in
    let files : map string_bytes c.deref-2.result.now ≡ operands_of true c.args.tool rest = ap (map string_bytes) c.deref-2.ensures.value ∙ (c.in_ok-add_operands.ensures ∙ ap (λ l. map string_bytes l ++ operands_of true c.args.tool rest) c.new-files.ensures.items) in
    let others : map string_bytes c.deref.result.now ≡ others_of c.args.tool c.args.name.now rest = ap (map string_bytes) c.deref.ensures.value ∙ c.in_ok-others.ensures in
    let many : 2 ≤ length (operands_of true c.args.tool rest) = subst (λ n. 2 ≤ n) (c.len.ensures ∙ (sym c.deref-2.ensures.len ∙ (sym (length-map c.deref-2.result.now string_bytes) ∙ ap length files))) c.if-len-lt2.false in
    IfOk-weaker c.with_files.result _ _ (λ calls is. is ∙ (ap (λ (fs : List Text). map (λ f. map string_bytes c.deref.result.now ++ f ∷ []) fs) files
    ∙ (ap (λ (os : List Text). map (λ f. os ++ f ∷ []) (operands_of true c.args.tool rest)) others
    ∙ many_files (map string_bytes c.args.words.now) (others_of c.args.tool c.args.name.now rest) (operands_of true c.args.tool rest) many))) c.with_files.ensures
