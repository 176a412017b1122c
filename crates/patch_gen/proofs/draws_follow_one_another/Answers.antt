use Rattle.std.proofs.Common.{◌+◌, ◌-◌, ◌*◌, ◌/◌, ◌%◌, ◌^◌, ap, sym, ◌∙◌}
use Rattle.patch_gen.specs.Lcg.{state_after}
use Rattle.patch_gen.specs.Tree.{file_state}
use Rattle.patch_gen.proofs.RunLemmas.{state-one, state-add}
use Rattle.patch_gen.proofs.draws_follow_one_another.Goals as goal

pub returns-clause-extras : goal.returns-clause-extras
returns-clause-extras c = λ seed lines i. ap (λ y. y / 2 ^ 33 % 5) (state-add seed ((i - 1) * (1 + lines)) 1)

pub returns-clause-values : goal.returns-clause-values
returns-clause-values c = λ seed lines i j.
    let first = (i - 1) * (1 + lines) in
    ap (λ y. y / 2 ^ 33 % 1000) (ap (λ x. state_after x j) (sym (state-one (file_state seed lines i)) ∙ state-add seed first 1) ∙ state-add seed (first + 1) j)
