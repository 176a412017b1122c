use Rattle.outside.proofs.Exits.{if_ok_none}
use Rattle.std.proofs.lemmas.Result.{err_from_is_err_and}
use Rattle.unified_form.proofs.body.read_body.Goals as goal

pub fill_body-requires-clause-place : goal.fill_body-requires-clause-place
fill_body-requires-clause-place c = c.requires.place

pub returns-in_err-end-clause-place : goal.returns-in_err-end-clause-place
returns-in_err-end-clause-place c = if_ok_none _ _ c.from_residual.result c.from_residual.ensures.1

pub returns-in_err-end-clause-few : goal.returns-in_err-end-clause-few
returns-in_err-end-clause-few c = if_ok_none _ _ c.from_residual.result c.from_residual.ensures.1

pub returns-in_err-end-clause-lies : goal.returns-in_err-end-clause-lies
returns-in_err-end-clause-lies c = if_ok_none _ _ c.from_residual.result c.from_residual.ensures.1

pub returns-in_err-lines-clause-place : goal.returns-in_err-lines-clause-place
returns-in_err-lines-clause-place c = if_ok_none _ _ c.from_residual-in_err-lines.result c.from_residual-in_err-lines.ensures.1

pub returns-in_err-lines-clause-few : goal.returns-in_err-lines-clause-few
returns-in_err-lines-clause-few c = if_ok_none _ _ c.from_residual-in_err-lines.result c.from_residual-in_err-lines.ensures.1

pub returns-in_err-lines-clause-lies : goal.returns-in_err-lines-clause-lies
returns-in_err-lines-clause-lies c = if_ok_none _ _ c.from_residual-in_err-lines.result c.from_residual-in_err-lines.ensures.1

pub returns-in_err-lines-clause-exact : goal.returns-in_err-lines-clause-exact
returns-in_err-lines-clause-exact c =
    let p = err_from_is_err_and c.from_residual-in_err-lines.result c.from_residual-in_err-lines.ensures.1 in
    rw (p.1, p.2) tt

pub returns-clause-feeds : goal.returns-clause-feeds
returns-clause-feeds c = c.fill_body.ensures.feeds

pub returns-clause-lies : goal.returns-clause-lies
returns-clause-lies c = rw (c.in_ok-lines.ensures.items, c.deref.ensures.value) c.in_ok-end.ensures.lies

pub returns-clause-exact : goal.returns-clause-exact
returns-clause-exact c = rw (c.in_ok-lines.ensures.items, c.deref.ensures.value) c.in_ok-end.ensures.exact

pub returns-clause-place : goal.returns-clause-place
returns-clause-place c = c.in_ok-end.ensures.place

pub fill_body-requires-clause-feeds : goal.fill_body-requires-clause-feeds
fill_body-requires-clause-feeds c = c.requires.feeds

pub returns-in_err-lines-clause-feeds : goal.returns-in_err-lines-clause-feeds
returns-in_err-lines-clause-feeds c = c.fill_body.ensures.feeds

pub returns-in_err-end-clause-feeds : goal.returns-in_err-end-clause-feeds
returns-in_err-end-clause-feeds c = c.fill_body.ensures.feeds
