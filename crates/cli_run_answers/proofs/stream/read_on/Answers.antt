use Rattle.std.proofs.Common.{◌+◌, ◌≤◌, ℕ, List, [], length, rules, arith, sym, subst}
use Rattle.cli_run_answers.specs.Input.{Takes}
use Rattle.cli_run_answers.proofs.Taking.{takes-both, takes-more}
use Rattle.cli_run_answers.proofs.stream.read_on.Goals as goal

pub returns-in-Err-clause-taken : goal.returns-in-Err-clause-taken
returns-in-Err-clause-taken g c = λ s before. takes-more s _ _ _ [] 0 _ before c.in-Err.ensures.none (omega (arith, c.requires.room))

pub returns-then-len-count-clause-taken : goal.returns-then-len-count-clause-taken
returns-then-len-count-clause-taken g c = λ s before.
    let few : length c.args.text.now.items + c.in-Ok.count ≤ 268435457 = search rules in
    takes-more s _ _ _ _ c.in-Ok.count _ before c.in-Ok.ensures.bytes few

pub returns-in_err-extend_from_slice-clause-taken : goal.returns-in_err-extend_from_slice-clause-taken
returns-in_err-extend_from_slice-clause-taken g c = λ s before.
    let few : length c.args.text.now.items + c.in-Ok.count ≤ 268435457 = search rules in
    takes-more s _ _ _ _ c.in-Ok.count _ before c.in-Ok.ensures.bytes few

pub returns-clause-taken : goal.returns-clause-taken
returns-clause-taken g c = λ s before.
    let few : length c.args.text.now.items + c.in-Ok.count ≤ 268435457 = search rules in
    takes-more s _ _ _ _ c.in-Ok.count _ before c.in-Ok.ensures.bytes few

pub returns-clause-text : goal.returns-clause-text
returns-clause-text g c = λ s before.
    subst (λ (l : List ℕ). Takes s (g.I.Source.view c.read_piece.new.source) l) (sym c.in_ok-extend_from_slice.ensures.items) (takes-both s _ _ _ _ before c.in-Ok.ensures.bytes)
