use Rattle.glob_match.proofs.PatternLemmas.{sign-first, sign-past, sign-second}
use Rattle.glob_match.proofs.has_sign.Goals as goal

pub returns-else-at-pattern : goal.returns-else-at-pattern
returns-else-at-pattern c = sign-past c.args.pattern.now c.args.at c.if-at-pattern.false

pub returns-then-pattern-at-eq33 : goal.returns-then-pattern-at-eq33
returns-then-pattern-at-eq33 c = sign-first c.args.pattern.now c.args.at c.if-at-pattern.true c.if-pattern-at-eq33.true

pub returns-else-pattern-at-eq33 : goal.returns-else-pattern-at-eq33
returns-else-pattern-at-eq33 c = sign-second c.args.pattern.now c.args.at c.if-at-pattern.true c.if-pattern-at-eq33.false
