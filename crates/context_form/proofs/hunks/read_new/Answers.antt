use Rattle.outside.proofs.Exits.{if_ok_none}
use Rattle.std.proofs.Common.{drop, ap, ◌∙◌, arith}
use Rattle.std.proofs.lemmas.Result.{err_from_is_err_and}
use Rattle.line_list.specs.Lines.{lines}
use Rattle.hunk_core.specs.PlainHunk.{body_of}
use Rattle.hunk_core.specs.Reading.{ahead_of}
use Rattle.context_form.specs.Parts.{plain_of}
use Rattle.context_form.specs.Hunks.{part_over}
use Rattle.context_form.proofs.StepLemmas.{new-fits-fails, new-few-fails, new-body-fails, new-read}
use Rattle.context_form.proofs.hunks.read_new.Goals as goal

pub read_range_line-requires : goal.read_range_line-requires
read_range_line-requires c = c.requires

pub returns-in_err-stated-clause-place : goal.returns-in_err-stated-clause-place
returns-in_err-stated-clause-place c = if_ok_none _ _ c.from_residual.result c.from_residual.ensures.1

pub returns-in_err-stated-clause-few : goal.returns-in_err-stated-clause-few
returns-in_err-stated-clause-few c = if_ok_none _ _ c.from_residual.result c.from_residual.ensures.1

pub returns-in_err-stated-clause-lies : goal.returns-in_err-stated-clause-lies
returns-in_err-stated-clause-lies c = if_ok_none _ _ c.from_residual.result c.from_residual.ensures.1

pub returns-in_err-stated-clause-fits : goal.returns-in_err-stated-clause-fits
returns-in_err-stated-clause-fits c = if_ok_none _ _ c.from_residual.result c.from_residual.ensures.1

pub has_new-is_there-requires : goal.has_new-is_there-requires
has_new-is_there-requires c = c.in_ok-stated.ensures.place.0.within

pub fits_part-requires : goal.fits_part-requires
fits_part-requires c = c.in_ok-stated.ensures.fits

pub returns-in_err-fits_part-clause-place : goal.returns-in_err-fits_part-clause-place
returns-in_err-fits_part-clause-place c = if_ok_none _ _ c.from_residual-in_err-fits_part.result c.from_residual-in_err-fits_part.ensures.1

pub returns-in_err-fits_part-clause-few : goal.returns-in_err-fits_part-clause-few
returns-in_err-fits_part-clause-few c = if_ok_none _ _ c.from_residual-in_err-fits_part.result c.from_residual-in_err-fits_part.ensures.1

pub returns-in_err-fits_part-clause-lies : goal.returns-in_err-fits_part-clause-lies
returns-in_err-fits_part-clause-lies c = if_ok_none _ _ c.from_residual-in_err-fits_part.result c.from_residual-in_err-fits_part.ensures.1

pub returns-in_err-fits_part-clause-fits : goal.returns-in_err-fits_part-clause-fits
returns-in_err-fits_part-clause-fits c = if_ok_none _ _ c.from_residual-in_err-fits_part.result c.from_residual-in_err-fits_part.ensures.1

pub returns-in_err-has_enough-clause-place : goal.returns-in_err-has_enough-clause-place
returns-in_err-has_enough-clause-place c = if_ok_none _ _ c.from_residual-in_err-has_enough.result c.from_residual-in_err-has_enough.ensures.1

pub returns-in_err-has_enough-clause-few : goal.returns-in_err-has_enough-clause-few
returns-in_err-has_enough-clause-few c = if_ok_none _ _ c.from_residual-in_err-has_enough.result c.from_residual-in_err-has_enough.ensures.1

pub returns-in_err-has_enough-clause-lies : goal.returns-in_err-has_enough-clause-lies
returns-in_err-has_enough-clause-lies c = if_ok_none _ _ c.from_residual-in_err-has_enough.result c.from_residual-in_err-has_enough.ensures.1

pub returns-in_err-has_enough-clause-fits : goal.returns-in_err-has_enough-clause-fits
returns-in_err-has_enough-clause-fits c = if_ok_none _ _ c.from_residual-in_err-has_enough.result c.from_residual-in_err-has_enough.ensures.1

pub read_body-requires : goal.read_body-requires
read_body-requires c = c.in_ok-stated.ensures.place.0

pub returns-in_err-body-clause-place : goal.returns-in_err-body-clause-place
returns-in_err-body-clause-place c = if_ok_none _ _ c.from_residual-in_err-body.result c.from_residual-in_err-body.ensures.1

pub returns-in_err-body-clause-few : goal.returns-in_err-body-clause-few
returns-in_err-body-clause-few c = if_ok_none _ _ c.from_residual-in_err-body.result c.from_residual-in_err-body.ensures.1

pub returns-in_err-body-clause-lies : goal.returns-in_err-body-clause-lies
returns-in_err-body-clause-lies c = if_ok_none _ _ c.from_residual-in_err-body.result c.from_residual-in_err-body.ensures.1

pub returns-in_err-body-clause-fits : goal.returns-in_err-body-clause-fits
returns-in_err-body-clause-fits c = if_ok_none _ _ c.from_residual-in_err-body.result c.from_residual-in_err-body.ensures.1

pub returns-clause-place : goal.returns-clause-place
returns-clause-place c = (c.in_ok-body.ensures.place.0, omega (arith, c.in_ok-stated.ensures.place.1, c.in_ok-body.ensures.place.1))

pub returns-clause-few : goal.returns-clause-few
returns-clause-few c = omega (arith, c.in_ok-stated.ensures.place.1, c.in_ok-body.ensures.few)

pub returns-clause-lies : goal.returns-clause-lies
returns-clause-lies c = c.in_ok-body.ensures.lies

pub returns-clause-fits : goal.returns-clause-fits
returns-clause-fits c = c.in_ok-stated.ensures.fits

pub returns-clause-exact : goal.returns-clause-exact
returns-clause-exact c = new-read (part_over c.args.text.now c.args.old.now) (ahead_of c.args.text.now c.args.place) (c.in_ok-stated.stated, ahead_of c.args.text.now c.in_ok-stated.place) (plain_of c.args.text.now c.in_ok-body.body, ahead_of c.args.text.now c.in_ok-body.place) c.has_new-is_there.result c.lines_of-most.result c.in_ok-stated.ensures.exact c.has_new-is_there.ensures c.in_ok-fits_part.ensures (c.in_ok-has_enough.ensures c.args.text.now) c.lines_of-most.ensures c.in_ok-body.ensures.exact

pub returns-in_err-body-clause-exact : goal.returns-in_err-body-clause-exact
returns-in_err-body-clause-exact c =
    let p = err_from_is_err_and c.from_residual-in_err-body.result c.from_residual-in_err-body.ensures.1 in
    rw (p.1, p.2) (new-body-fails c.in_err-body.field-0.0 (part_over c.args.text.now c.args.old.now) (ahead_of c.args.text.now c.args.place) (c.in_ok-stated.stated, ahead_of c.args.text.now c.in_ok-stated.place) c.has_new-is_there.result c.lines_of-most.result c.in_ok-stated.ensures.exact c.has_new-is_there.ensures c.in_ok-fits_part.ensures (c.in_ok-has_enough.ensures c.args.text.now) c.lines_of-most.ensures c.in_err-body.ensures.exact)

pub returns-in_err-fits_part-clause-exact : goal.returns-in_err-fits_part-clause-exact
returns-in_err-fits_part-clause-exact c =
    let p = err_from_is_err_and c.from_residual-in_err-fits_part.result c.from_residual-in_err-fits_part.ensures.1 in
    rw (p.1, p.2) (new-fits-fails c.in_err-fits_part.field-0.0 (part_over c.args.text.now c.args.old.now) (ahead_of c.args.text.now c.args.place) (c.in_ok-stated.stated, ahead_of c.args.text.now c.in_ok-stated.place) c.has_new-is_there.result c.in_ok-stated.ensures.exact c.has_new-is_there.ensures c.in_err-fits_part.ensures)

pub returns-in_err-has_enough-clause-exact : goal.returns-in_err-has_enough-clause-exact
returns-in_err-has_enough-clause-exact c =
    let p = err_from_is_err_and c.from_residual-in_err-has_enough.result c.from_residual-in_err-has_enough.ensures.1 in
    rw (p.1, p.2) (new-few-fails c.in_err-has_enough.field-0.0 (part_over c.args.text.now c.args.old.now) (ahead_of c.args.text.now c.args.place) (c.in_ok-stated.stated, ahead_of c.args.text.now c.in_ok-stated.place) c.has_new-is_there.result c.in_ok-stated.ensures.exact c.has_new-is_there.ensures c.in_ok-fits_part.ensures (c.in_err-has_enough.ensures c.args.text.now))
