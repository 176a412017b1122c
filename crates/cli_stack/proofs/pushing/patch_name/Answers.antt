use Rattle.std.proofs.Common.{◌≡◌, ℕ, List, ◌∷◌, ◌++◌, Bool, false, ◌∙◌, ap, if◌then◌else◌}
use Rattle.std.proofs.lemmas.Result.{IfOk-weaker}
use Rattle.outside.specs.Names.{is_absolute, placed}
use Rattle.series_stack.specs.Stack.{patch_name}
use Rattle.cli_stack.proofs.pushing.patch_name.Goals as goal

pub returns : goal.returns
returns c =
    let name = c.args.name.now in
    let directory = c.in-Ok.directory in
    IfOk-weaker c.below.result (λ file. file ≡ placed directory name) (λ file. is_absolute name ≡ false → file ≡ patch_name name)
    (λ file is relative. is ∙ ap (λ (v : Bool). if v then name else directory ++ 47 ∷ name) relative ∙ ap (λ (d : List ℕ). d ++ 47 ∷ name) c.in-Ok.ensures.text)
    c.below.ensures.text
