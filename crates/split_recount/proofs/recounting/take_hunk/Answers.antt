use Rattle.split_recount.specs.Walking.{written}
use Rattle.split_recount.proofs.Walking.{step-put, step-refused}
use Rattle.split_recount.proofs.Bounds.{text-short, reached-fits, behind-fits, old-fits, new-fits, body-behind}
use Rattle.split_recount.proofs.recounting.take_hunk.Goals as goal

pub returns-in-Err : goal.returns-in-Err
returns-in-Err c = step-refused c.args.text.now c.args.reached c.args.end c.in-Err.fault c.requires.line c.requires.opens c.in-Err.ensures

pub returns : goal.returns
returns c =
    let line = written c.in-Ok.ranges.0 c.in-Ok.ranges.1 c.in-Ok.ranges.2.now in
    step-put c.args.text.now c.args.reached c.args.end c.measure-body.result line c.args.out.now.items c.put_range_line.new.out.items c.extend_from_slice.new.self.items c.in_ok-extend_from_slice.ensures.items c.in_ok-put_range_line.ensures
    c.requires.reached c.requires.line c.requires.opens c.measure-body.ensures c.in-Ok.ensures

pub measure-body-requires-clause-within : goal.measure-body-requires-clause-within
measure-body-requires-clause-within c = c.requires.line.high

pub measure-body-requires-clause-short : goal.measure-body-requires-clause-short
measure-body-requires-clause-short c = text-short _ c.requires.short

pub ranges_at-requires-clause-short : goal.ranges_at-requires-clause-short
ranges_at-requires-clause-short c = c.requires.short

pub ranges_at-requires-clause-reached : goal.ranges_at-requires-clause-reached
ranges_at-requires-clause-reached c = c.requires.reached

pub ranges_at-requires-clause-line : goal.ranges_at-requires-clause-line
ranges_at-requires-clause-line c = c.requires.line

pub ranges_at-requires-clause-body : goal.ranges_at-requires-clause-body
ranges_at-requires-clause-body c = c.measure-body.ensures

pub slice_bounds-extend_from_slice-count : goal.slice_bounds-extend_from_slice-count
slice_bounds-extend_from_slice-count c = body-behind c.requires.short c.requires.reached c.measure-body.ensures

pub slice_bounds-extend_from_slice-end : goal.slice_bounds-extend_from_slice-end
slice_bounds-extend_from_slice-end c = c.measure-body.ensures.high

pub slice_bounds-extend_from_slice-start : goal.slice_bounds-extend_from_slice-start
slice_bounds-extend_from_slice-start c = body-behind c.requires.short c.requires.reached c.measure-body.ensures

pub overflow_add-result : goal.overflow_add-result
overflow_add-result c = reached-fits c.requires.short c.requires.reached

pub overflow_add-result-2 : goal.overflow_add-result-2
overflow_add-result-2 c = behind-fits c.requires.short c.requires.reached c.measure-body.ensures

pub overflow_add-result-3 : goal.overflow_add-result-3
overflow_add-result-3 c = old-fits c.requires.short c.requires.reached c.measure-body.ensures

pub overflow_add-result-4 : goal.overflow_add-result-4
overflow_add-result-4 c = new-fits c.requires.short c.requires.reached c.measure-body.ensures
