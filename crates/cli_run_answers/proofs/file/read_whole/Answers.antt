use Rattle.std.proofs.Common.{rules, ◌≡◌, ◌<◌, length, refl, arith}
use Rattle.outside.specs.Calls.{untouched_none}
use Rattle.cli_run_answers.proofs.Disagreeing.{short-untold}
use Rattle.cli_run_answers.proofs.file.read_whole.Goals as goal

pub returns-then-got-size-clause-cause : goal.returns-then-got-size-clause-cause
returns-then-got-size-clause-cause g c =
    let view = g.T.Tree.view c.args.tree.now in
    let all : length c.deref_mut.result.now ≡ c.args.size = search rules in
    let fewer : c.in-Ok.count < c.args.size = search rules in
    (λ same. omega (arith, same, c.if-got-size.true), short-untold view view c.args.name.now _ _ c.in-Ok.count _ _ (untouched_none view) refl c.requires.stated c.in-Ok.ensures.bytes all fewer)
