use Rattle.std.proofs.Common.{◌≡◌, Some, ap, sym, ◌∙◌}
use Rattle.std.proofs.lemmas.Result.{IfOk-weaker}
use Rattle.read_file_patch.specs.Moved.{differing, two_names}
use Rattle.read_file_patch.proofs.moved.two_names.Goals as goal

pub returns : goal.returns
returns c =
    let source = c.in-Some.source in
    let destination = c.in-Some-destination.destination in
    IfOk-weaker c.differing.result (λ names. names.items ≡ differing source destination) (λ names. names.items ≡ two_names c.args.source c.args.destination)
    (λ names is. is ∙ ap (λ n. two_names n (Some destination)) (sym c.in-Some.is) ∙ ap (two_names c.args.source) (sym c.in-Some-destination.is)) c.differing.ensures
