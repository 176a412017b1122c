use Rattle.std.proofs.Common.{refl, rules, arith}
use Rattle.hunk_core.proofs.TextLemmas.{slice-first}
use Rattle.context_form.proofs.part.text_start.Goals as goal

pub returns-in-32-clause-exact : goal.returns-in-32-clause-exact
returns-in-32-clause-exact c = rw (slice-first c.args.text.now c.args.at c.args.end (omega (arith, c.if-at-end.false, c.requires.low)) c.requires.high, c.in-32.is) refl

pub returns-in-9-clause-exact : goal.returns-in-9-clause-exact
returns-in-9-clause-exact c = rw (slice-first c.args.text.now c.args.at c.args.end (omega (arith, c.if-at-end.false, c.requires.low)) c.requires.high, c.in-9.is) refl

pub returns-in_default-clause-exact : goal.returns-in_default-clause-exact
returns-in_default-clause-exact c = rw (slice-first c.args.text.now c.args.at c.args.end (omega (arith, c.if-at-end.false, c.requires.low)) c.requires.high) (search rules)
