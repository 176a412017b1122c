use Rattle.glob_match.proofs.MemberLemmas.{}
use Rattle.std.proofs.Common.{◌+◌, ◌<◌, length, drop, arith, eq-eqb, length-drop}
use Rattle.std.proofs.lemmas.Bool.{eqb-true}
use Rattle.std.proofs.lemmas.List.{take_rest}
use Rattle.glob_match.proofs.PatternLemmas.{members-none, members-found}
use Rattle.glob_match.proofs.set_end.Goals as goal

pub returns-in_err-further : goal.returns-in_err-further
returns-in_err-further c =
    let none = rw (take_rest c.args.pattern.now (c.args.start + 1)) at c.in_err-further.ensures in
    rw c.from_residual.ensures (members-none c.args.pattern.now c.args.start (omega arith) (λ i lt e. none i (omega arith) lt (eq-eqb _ _ e)))

pub returns : goal.returns
returns c =
    let found = rw (take_rest c.args.pattern.now (c.args.start + 1)) at c.in_ok-further.ensures in
    let high : c.in_ok-further.further < length (drop (c.args.start + 1) c.args.pattern.now) = found.0.high in
    (omega arith, omega (arith, high, length-drop (c.args.start + 1) c.args.pattern.now), members-found c.args.pattern.now c.args.start c.in_ok-further.further (omega arith) high (eqb-true _ _ found.1) (λ i lt e. found.0.before i (omega arith) lt (eq-eqb _ _ e)))
