use Rattle.std.proofs.Common.{◌≡◌, ap, ◌∙◌}
use Rattle.std.proofs.lemmas.Result.{IfOk-weaker}
use Rattle.std.specs.Option.{option_copied}
use Rattle.read_file_patch.specs.Moved.{moved_name, moved_names, two_names}
use Rattle.read_file_patch.proofs.moved.moved_names.Goals as goal

pub returns : goal.returns
returns c =
    let source = option_copied c.args.source in
    let destination = option_copied c.args.destination in
    IfOk-weaker c.two_names.result (λ names. names.items ≡ two_names c.in_ok-one.one c.in_ok-other.other) (λ names. names.items ≡ moved_names c.args.strip source destination)
    (λ names is. is ∙ ap (λ n. two_names n c.in_ok-other.other) c.in_ok-one.ensures ∙ ap (two_names (moved_name c.args.strip source)) c.in_ok-other.ensures) c.two_names.ensures
