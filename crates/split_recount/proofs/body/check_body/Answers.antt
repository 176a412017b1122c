use Rattle.std.proofs.Common.{None, Some, sym}
use Rattle.split_recount.proofs.Bounds.{line-fits, next-number}
use Rattle.split_recount.proofs.Misplaced.{check-none, check-found, check-plain}
use Rattle.split_recount.proofs.body.check_body.Goals as goal

pub overflow_add-number : goal.overflow_add-number
overflow_add-number c = line-fits c.args.number c.args.at _ c.requires.small c.requires.within c.requires.short

pub first_misplaced-requires-clause-within : goal.first_misplaced-requires-clause-within
first_misplaced-requires-clause-within c = c.requires.within

pub first_misplaced-requires-clause-short : goal.first_misplaced-requires-clause-short
first_misplaced-requires-clause-short c = c.requires.short

pub first_misplaced-requires-clause-small : goal.first_misplaced-requires-clause-small
first_misplaced-requires-clause-small c = next-number c.args.number c.args.at c.requires.small

pub first_misplaced-requires-clause-sides : goal.first_misplaced-requires-clause-sides
first_misplaced-requires-clause-sides c = c.requires.measured.sides

pub returns-then-body-eq0 : goal.returns-then-body-eq0
returns-then-body-eq0 c = rw c.bad.ensures (check-none c.args.number c.requires.measured c.if-body-eq0.true)

pub returns-then-not-body : goal.returns-then-not-body
returns-then-not-body c = check-plain c.args.number c.requires.measured c.if-body-eq0.false c.if-not-body.true

pub returns-in-None : goal.returns-in-None
returns-in-None c = check-found c.args.number c.requires.measured None c.if-body-eq0.false (sym c.in-None.ensures)

pub returns-in-Some : goal.returns-in-Some
returns-in-Some c = rw c.bad-in-Some.ensures (check-found c.args.number c.requires.measured (Some c.in-Some.line) c.if-body-eq0.false (sym c.in-Some.ensures))
