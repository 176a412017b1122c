use Rattle.std.proofs.Common.{◌≡◌, rules, tests}
use Rattle.hunk_core.specs.Reading.{ahead_of}
use Rattle.hunk_core.specs.declared.command.Action.TheVariants.{Change}
use Rattle.normal_form.proofs.ReaderExits.{met, divider_none, divider_refused, divider_found}
use Rattle.normal_form.proofs.stretch.after_divider.Goals as goal

pub returns-in_default-clause-exact : goal.returns-in_default-clause-exact
returns-in_default-clause-exact c =
    let is : c.args.action ≡ Change = search (rules, tests) in
    met c.bad.result _ _ _ c.bad.ensures (divider_none c.args.action (ahead_of c.args.text.now c.args.place) is c.in_default.ensures.1)

pub returns-else-divides-clause-exact : goal.returns-else-divides-clause-exact
returns-else-divides-clause-exact c =
    let is : c.args.action ≡ Change = search (rules, tests) in
    met c.bad-else-divides.result _ _ _ c.bad-else-divides.ensures (divider_refused c.args.action (ahead_of c.args.text.now c.args.place) _ _ c.unmarked_kind.result is c.in-Some.ensures.first c.if-divides.ensures c.unmarked_kind.ensures)

pub returns-then-divides-clause-exact : goal.returns-then-divides-clause-exact
returns-then-divides-clause-exact c =
    let is : c.args.action ≡ Change = search (rules, tests) in
    divider_found c.args.action (ahead_of c.args.text.now c.args.place) _ _ is c.in-Some.ensures.first c.if-divides.ensures
