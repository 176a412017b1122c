use Rattle.std.proofs.Common.{◌≡◌, ◌++◌, ◌∙◌}
use Rattle.std.proofs.lemmas.Result.{IfOk-weaker}
use Rattle.filter_whole_text.specs.PartNames.{part_name, mark}
use Rattle.filter_whole_text.proofs.NameLoops.{marked-is}
use Rattle.filter_whole_text.proofs.naming.with_mark.Goals as goal

pub returns-then-marked : goal.returns-then-marked
returns-then-marked c =
    IfOk-weaker c.part_name.result (λ name. name ≡ part_name c.args.stem.now c.args.number) (λ name. name ≡ c.args.stem.now ++ mark c.args.marked c.args.number)
    (λ name is. is ∙ marked-is c.args.stem.now c.args.number c.args.marked c.if-marked.true)
    c.part_name.ensures
