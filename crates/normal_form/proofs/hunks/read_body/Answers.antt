use Rattle.hunk_core.specs.PlainHunk.{body_of}
use Rattle.hunk_core.specs.Reading.{ahead_of}
use Rattle.normal_form.proofs.ReaderExits.{body_left}
use Rattle.std.proofs.Common.{arith}
use Rattle.std.proofs.lemmas.Result.{IfOk-weaker}
use Rattle.outside.proofs.Exits.{if_ok_none}
use Rattle.normal_form.proofs.hunks.read_body.Goals as goal

pub lines_ahead-requires : goal.lines_ahead-requires
lines_ahead-requires c = c.requires.within

pub returns-in_err-none-clause-place : goal.returns-in_err-none-clause-place
returns-in_err-none-clause-place c = if_ok_none _ _ c.from_residual.result c.from_residual.ensures.1

pub returns-in_err-none-clause-few : goal.returns-in_err-none-clause-few
returns-in_err-none-clause-few c = if_ok_none _ _ c.from_residual.result c.from_residual.ensures.1

pub returns-in_err-none-clause-lies : goal.returns-in_err-none-clause-lies
returns-in_err-none-clause-lies c = if_ok_none _ _ c.from_residual.result c.from_residual.ensures.1

pub read_stretch-requires-clause-place : goal.read_stretch-requires-clause-place
read_stretch-requires-clause-place c = c.requires

pub returns-in_err-old-clause-place : goal.returns-in_err-old-clause-place
returns-in_err-old-clause-place c = if_ok_none _ _ c.from_residual-in_err-old.result c.from_residual-in_err-old.ensures.1

pub returns-in_err-old-clause-few : goal.returns-in_err-old-clause-few
returns-in_err-old-clause-few c = if_ok_none _ _ c.from_residual-in_err-old.result c.from_residual-in_err-old.ensures.1

pub returns-in_err-old-clause-lies : goal.returns-in_err-old-clause-lies
returns-in_err-old-clause-lies c = if_ok_none _ _ c.from_residual-in_err-old.result c.from_residual-in_err-old.ensures.1

pub after_divider-requires : goal.after_divider-requires
after_divider-requires c = c.in_ok-old.ensures.place.0

pub returns-in_err-middle-clause-place : goal.returns-in_err-middle-clause-place
returns-in_err-middle-clause-place c = if_ok_none _ _ c.from_residual-in_err-middle.result c.from_residual-in_err-middle.ensures.1

pub returns-in_err-middle-clause-few : goal.returns-in_err-middle-clause-few
returns-in_err-middle-clause-few c = if_ok_none _ _ c.from_residual-in_err-middle.result c.from_residual-in_err-middle.ensures.1

pub returns-in_err-middle-clause-lies : goal.returns-in_err-middle-clause-lies
returns-in_err-middle-clause-lies c = if_ok_none _ _ c.from_residual-in_err-middle.result c.from_residual-in_err-middle.ensures.1

pub read_stretch-requires-2-clause-place : goal.read_stretch-requires-2-clause-place
read_stretch-requires-2-clause-place c = c.in_ok-middle.ensures.place.0

pub read_stretch-requires-2-clause-lies : goal.read_stretch-requires-2-clause-lies
read_stretch-requires-2-clause-lies c = c.in_ok-old.ensures.lies

pub returns-clause-place : goal.returns-clause-place
returns-clause-place c = IfOk-weaker c.read_stretch-2.result _ _ (λ x is. (is.0, omega (arith, is.1, c.in_ok-middle.ensures.place.1, c.in_ok-old.ensures.place.1))) c.read_stretch-2.ensures.place

pub returns-clause-few : goal.returns-clause-few
returns-clause-few c = IfOk-weaker c.read_stretch-2.result _ _ (λ x is. omega (arith, is, c.in_ok-old.ensures.few, c.in_ok-none.ensures.len, c.in_ok-middle.ensures.place.1)) c.read_stretch-2.ensures.few

pub returns-clause-exact : goal.returns-clause-exact
returns-clause-exact c =
    let text = c.args.text.now in
    rw (body_left c.args.command (ahead_of text c.args.place) (ahead_of text c.in_ok-old.behind) (ahead_of text c.in_ok-middle.middle) (body_of text c.in_ok-old.old.items) (rw c.in_ok-none.ensures.items at c.in_ok-old.ensures.exact) c.in_ok-middle.ensures.exact) c.read_stretch-2.ensures.exact

pub returns-clause-lies : goal.returns-clause-lies
returns-clause-lies c = c.read_stretch-2.ensures.lies

pub read_stretch-requires-2-clause-few : goal.read_stretch-requires-2-clause-few
read_stretch-requires-2-clause-few c = omega (arith, c.in_ok-old.ensures.few, c.in_ok-none.ensures.len, c.in_ok-middle.ensures.place.1)
