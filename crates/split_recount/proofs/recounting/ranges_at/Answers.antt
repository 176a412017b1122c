use Rattle.split_recount.specs.Bodies.{marked_lines}
use Rattle.split_recount.specs.Measured.{body_at}
use Rattle.split_recount.proofs.Walking.{line-refused, body-refused, line-is}
use Rattle.split_recount.proofs.Bounds.{low-end, text-short, reached-small, earlier-small}
use Rattle.split_recount.proofs.recounting.ranges_at.Goals as goal

pub returns-in-Err : goal.returns-in-Err
returns-in-Err c = rw c.bad.ensures (line-refused _ _ _ _ c.in-Err.kind c.in-Err.ensures.exact)

pub returns-in-Err-check_body : goal.returns-in-Err-check_body
returns-in-Err-check_body c = body-refused _ _ _ _ (c.in-Ok.stated.0, c.in-Ok.stated.1.now) c.in-Err-check_body.fault c.in-Ok.ensures.exact c.in-Err-check_body.ensures

pub returns-in-Ok-true_ranges : goal.returns-in-Ok-true_ranges
returns-in-Ok-true_ranges c =
    let marked = marked_lines (body_at c.args.text.now c.args.end) in
    line-is _ _ _ _ (c.in-Ok.stated.0, c.in-Ok.stated.1.now) marked _ c.in-Ok.ensures.exact c.in-Ok-check_body.ensures (c.in-Ok-true_ranges.ensures marked c.in-Ok.stated.1.now c.requires.body.sides)

pub returns-in-Err-true_ranges : goal.returns-in-Err-true_ranges
returns-in-Err-true_ranges c =
    let marked = marked_lines (body_at c.args.text.now c.args.end) in
    rw c.bad-in-Err-true_ranges.ensures (line-is _ _ _ _ (c.in-Ok.stated.0, c.in-Ok.stated.1.now) marked _ c.in-Ok.ensures.exact c.in-Ok-check_body.ensures (c.in-Err-true_ranges.ensures marked c.in-Ok.stated.1.now c.requires.body.sides))

pub slice_bounds-stated_by-count : goal.slice_bounds-stated_by-count
slice_bounds-stated_by-count c = low-end c.requires.line

pub slice_bounds-stated_by-end : goal.slice_bounds-stated_by-end
slice_bounds-stated_by-end c = c.requires.line.high

pub slice_bounds-stated_by-start : goal.slice_bounds-stated_by-start
slice_bounds-stated_by-start c = low-end c.requires.line

pub check_body-requires-clause-within : goal.check_body-requires-clause-within
check_body-requires-clause-within c = c.requires.line.high

pub check_body-requires-clause-short : goal.check_body-requires-clause-short
check_body-requires-clause-short c = text-short _ c.requires.short

pub check_body-requires-clause-small : goal.check_body-requires-clause-small
check_body-requires-clause-small c = reached-small c.requires.reached c.requires.line

pub check_body-requires-clause-measured : goal.check_body-requires-clause-measured
check_body-requires-clause-measured c = c.requires.body

pub true_ranges-requires-clause-first : goal.true_ranges-requires-clause-first
true_ranges-requires-clause-first c = c.in-Ok.ensures.small

pub true_ranges-requires-clause-earlier : goal.true_ranges-requires-clause-earlier
true_ranges-requires-clause-earlier c = earlier-small c.requires.short c.requires.reached
