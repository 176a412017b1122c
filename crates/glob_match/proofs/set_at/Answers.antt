use Rattle.std.proofs.Common.{◌+◌, arith, sym, subst}
use Rattle.glob_match.specs.Walking.{IsFront}
use Rattle.glob_match.proofs.PatternLemmas.{sign-open, sign-shut, sign-there}
use Rattle.glob_match.proofs.set_at.Goals as goal

pub returns-then-has_sign : goal.returns-then-has_sign
returns-then-has_sign c =
    subst (λ f. IsFront c.args.pattern.now c.args.at f c.set_from.result) (sym (sign-open c.args.pattern.now c.args.at c.if-has_sign.ensures)) c.set_from.ensures

pub set_from-requires-clause-place : goal.set_from-requires-clause-place
set_from-requires-clause-place c = omega (arith, sign-there c.args.pattern.now (c.args.at + 1) c.if-has_sign.ensures)

pub returns-else-has_sign : goal.returns-else-has_sign
returns-else-has_sign c =
    subst (λ f. IsFront c.args.pattern.now c.args.at f c.set_from-else-has_sign.result) (sym (sign-shut c.args.pattern.now c.args.at (c.args.at + 0 + 1) (omega arith) c.if-has_sign.ensures)) c.set_from-else-has_sign.ensures
