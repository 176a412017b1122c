use Rattle.std.proofs.Common.{◌≡◌, bytes_eq, if◌then◌else◌, None, ap, ◌∙◌}
use Rattle.std.proofs.lemmas.Result.{IfOk-weaker}
use Rattle.read_file_patch.specs.Candidates.{left_name, left_if_file}
use Rattle.read_file_patch.proofs.header_names.left_if_file.Goals as goal

pub returns : goal.returns
returns c =
    let found = left_name c.args.strip c.args.name.now in
    IfOk-weaker c.left_name.result (λ f. f ≡ found) (λ f. f ≡ left_if_file c.args.strip c.args.name.now)
    (λ f is. is ∙ ap (λ v. if v then None else found) (c.if-eq.ensures ∙ ap (bytes_eq c.args.name.now) c.as_slice.ensures)) c.left_name.ensures

pub returns-then-eq : goal.returns-then-eq
returns-then-eq c = ap (λ v. if v then None else left_name c.args.strip c.args.name.now) (c.if-eq.ensures ∙ ap (bytes_eq c.args.name.now) c.as_slice.ensures)
