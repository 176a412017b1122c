use Rattle.std.proofs.Common.{◌≡◌, Some, sym, ap, ◌∙◌}
use Rattle.std.proofs.lemmas.Result.{IfOk-weaker}
use Rattle.std.specs.Option.{option_copied}
use Rattle.read_file_patch.specs.Candidates.{header_candidate}
use Rattle.patch_set.specs.Skipped.{new_name}
use Rattle.patch_set.proofs.skipped.new_name.Goals as goal

pub returns-in-None : goal.returns-in-None
returns-in-None c = ap (λ t. new_name (option_copied t)) (sym c.in-None.is)

pub returns-in-Some : goal.returns-in-Some
returns-in-Some c =
    IfOk-weaker c.candidate.result (λ name. name ≡ header_candidate (Some 0) c.second_half.result.now) (λ name. name ≡ new_name (option_copied c.args.names))
    (λ name is. is ∙ ap (header_candidate (Some 0)) c.second_half.ensures ∙ ap (λ t. new_name (option_copied t)) (sym c.in-Some.is)) c.candidate.ensures
