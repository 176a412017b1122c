use Rattle.std.proofs.Common.{◌≡◌, ℕ, List, ◌++◌, ◌∙◌, ap}
use Rattle.std.proofs.lemmas.Result.{IfOk-weaker}
use Rattle.filter_whole_text.specs.PartNames.{base, ending}
use Rattle.filter_whole_text.proofs.naming.base.Goals as goal

pub returns : goal.returns
returns c =
    IfOk-weaker c.with_ending.result (λ whole. whole ≡ c.in_ok-name.name ++ ending c.args.bare) (λ whole. whole ≡ base c.args.bare c.args.marked c.args.number c.args.stem.now)
    (λ whole is. is ∙ ap (λ (l : List ℕ). l ++ ending c.args.bare) c.in_ok-name.ensures)
    c.with_ending.ensures
