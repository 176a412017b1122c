use Rattle.outside.proofs.Exits.{on_ok_none}
use Rattle.std.proofs.Common.{◌++◌, ap, sym, ◌∙◌}
use Rattle.std.specs.Option.{option_copied, option_to_list}
use Rattle.std.proofs.lemmas.Result.{on_ok_weaker}
use Rattle.std.proofs.lemmas.List.{append-nil}
use Rattle.read_file_patch.specs.Candidates.{header_names}
use Rattle.read_file_patch.proofs.header_names.add_header.Goals as goal

pub returns-in_err-header_candidate-in-Some : goal.returns-in_err-header_candidate-in-Some
returns-in_err-header_candidate-in-Some c = on_ok_none _ _ c.from_residual.result c.from_residual.ensures.1

pub returns-in_ok-header_candidate-in-Some : goal.returns-in_ok-header_candidate-in-Some
returns-in_ok-header_candidate-in-Some c =
    let names = c.args.names.now.items in
    on_ok_weaker c.add.result
    (λ is. is ∙ ap (λ f. names ++ option_to_list f) c.in_ok-header_candidate-in-Some.ensures ∙ ap (λ t. names ++ header_names c.args.strip (option_copied t)) (sym c.in-Some.is)) c.add.ensures

pub returns-in-None : goal.returns-in-None
returns-in-None c =
    let names = c.args.names.now.items in
    sym (append-nil names) ∙ ap (λ t. names ++ header_names c.args.strip (option_copied t)) (sym c.in-None.is)
