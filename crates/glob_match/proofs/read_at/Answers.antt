use Rattle.std.proofs.Common.{ap, arith, refl}
use Rattle.glob_match.specs.Pattern.{Byte}
use Rattle.glob_match.proofs.PatternLemmas.{backslash-front, backslash-last}
use Rattle.glob_match.proofs.read_at.Goals as goal

pub returns-in-92 : goal.returns-in-92
returns-in-92 c =
    let lt = c.if-next-pattern.true in
    rw (backslash-front c.args.pattern.now c.args.at c.in-92.is lt) (record { element = refl; next = omega arith; low = omega arith; high = omega (arith, lt); lies = tt })

pub returns-in_default : goal.returns-in_default
returns-in_default c =
    rw (backslash-last c.args.pattern.now c.args.at c.in-92.is c.if-next-pattern.false) (record { element = ap (λ b. Byte b) c.in-92.is; next = refl; low = omega arith; high = omega (arith, c.requires); lies = tt })
