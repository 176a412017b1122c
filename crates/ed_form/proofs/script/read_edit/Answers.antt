use Rattle.std.proofs.lemmas.Result.{IfOk-from_err, err_from_is_err_and}
use Rattle.ed_form.proofs.Bounds.{low-end, address-fits, number-fits, next-place, place-later, few-later}
use Rattle.ed_form.proofs.EditLoops.{edit-missing, edit-bad, edit-read, edit-fails}
use Rattle.ed_form.proofs.script.read_edit.Goals as goal

pub next_line-requires : goal.next_line-requires
next_line-requires c = c.requires.within

pub slice_bounds-opening_of-count : goal.slice_bounds-opening_of-count
slice_bounds-opening_of-count c = low-end c.in-Some.ensures

pub slice_bounds-opening_of-start : goal.slice_bounds-opening_of-start
slice_bounds-opening_of-start c = low-end c.in-Some.ensures

pub slice_bounds-opening_of-end : goal.slice_bounds-opening_of-end
slice_bounds-opening_of-end c = c.in-Some.ensures.high

pub overflow_add-number : goal.overflow_add-number
overflow_add-number c = number-fits c.requires

pub read_added-requires : goal.read_added-requires
read_added-requires c = next-place c.requires c.in-Some.ensures

pub overflow_cast-edit : goal.overflow_cast-edit
overflow_cast-edit c = address-fits _ c.in-Ok.ensures.fits.first

pub overflow_cast-edit-2 : goal.overflow_cast-edit-2
overflow_cast-edit-2 c = address-fits _ c.in-Ok.ensures.fits.last

pub returns-in_default-clause-place : goal.returns-in_default-clause-place
returns-in_default-clause-place c = tt

pub returns-in_default-clause-few : goal.returns-in_default-clause-few
returns-in_default-clause-few c = tt

pub returns-in_default-clause-lies : goal.returns-in_default-clause-lies
returns-in_default-clause-lies c = tt

pub returns-in_default-clause-exact : goal.returns-in_default-clause-exact
returns-in_default-clause-exact c = rw c.bad.ensures (edit-missing c.args.below c.args.place.number _ c.in_default.ensures.1)

pub returns-in-Err-clause-place : goal.returns-in-Err-clause-place
returns-in-Err-clause-place c = tt

pub returns-in-Err-clause-few : goal.returns-in-Err-clause-few
returns-in-Err-clause-few c = tt

pub returns-in-Err-clause-lies : goal.returns-in-Err-clause-lies
returns-in-Err-clause-lies c = tt

pub returns-in-Err-clause-exact : goal.returns-in-Err-clause-exact
returns-in-Err-clause-exact c = rw c.bad-in-Err.ensures (edit-bad c.args.below c.args.place.number _ _ _ c.in-Some.ensures.first c.in-Err.kind c.in-Err.ensures.exact)

pub returns-in_err-added-clause-place : goal.returns-in_err-added-clause-place
returns-in_err-added-clause-place c = IfOk-from_err c.from_residual.result _ c.from_residual.ensures.0

pub returns-in_err-added-clause-few : goal.returns-in_err-added-clause-few
returns-in_err-added-clause-few c = IfOk-from_err c.from_residual.result _ c.from_residual.ensures.0

pub returns-in_err-added-clause-lies : goal.returns-in_err-added-clause-lies
returns-in_err-added-clause-lies c = IfOk-from_err c.from_residual.result _ c.from_residual.ensures.0

pub returns-in_err-added-clause-exact : goal.returns-in_err-added-clause-exact
returns-in_err-added-clause-exact c =
    let p = err_from_is_err_and c.from_residual.result c.from_residual.ensures.1 in
    rw (p.1, p.2) (edit-fails c.args.below c.args.place.number _ _ _ c.in-Some.ensures.first c.in_err-added.field-0.0 c.in-Ok.heading c.in-Ok.ensures.exact c.in_err-added.ensures.exact)

pub returns-clause-place : goal.returns-clause-place
returns-clause-place c = (c.in_ok-added.ensures.place.0, place-later _ c.in-Some.ensures c.in_ok-added.ensures.place.1)

pub returns-clause-few : goal.returns-clause-few
returns-clause-few c = few-later _ _ c.in-Some.ensures c.in_ok-added.ensures.few

pub returns-clause-lies : goal.returns-clause-lies
returns-clause-lies c = c.in_ok-added.ensures.lies

pub returns-clause-exact : goal.returns-clause-exact
returns-clause-exact c = edit-read c.args.below c.args.place.number _ _ _ c.in-Some.ensures.first c.in-Ok.heading _ _ c.in-Ok.ensures.exact c.in_ok-added.ensures.exact
