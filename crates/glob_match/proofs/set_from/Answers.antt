use Rattle.std.proofs.Common.{◌+◌, refl}
use Rattle.glob_match.proofs.PatternLemmas.{set-is}
use Rattle.glob_match.proofs.set_from.Goals as goal

pub returns-in-Some : goal.returns-in-Some
returns-in-Some c =
    set-is c.args.pattern.now c.args.at c.args.sign (c.args.at + c.args.sign + 1) c.in-Some.end c.args.is_opposite _ refl c.in-Some.ensures.0 c.in-Some.ensures.1 c.in-Some.ensures.2
