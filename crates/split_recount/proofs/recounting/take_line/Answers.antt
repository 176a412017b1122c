use Rattle.split_recount.proofs.Walking.{step-line}
use Rattle.split_recount.proofs.Bounds.{low-end, reached-fits}
use Rattle.split_recount.proofs.recounting.take_line.Goals as goal

pub returns : goal.returns
returns c = rw c.in_ok-extend_from_slice.ensures.items (step-line c.args.text.now c.args.reached c.args.end c.earlier_behind.result c.args.out.now.items c.requires.reached c.requires.line c.requires.other c.earlier_behind.ensures)

pub slice_bounds-line-count : goal.slice_bounds-line-count
slice_bounds-line-count c = low-end c.requires.line

pub slice_bounds-line-end : goal.slice_bounds-line-end
slice_bounds-line-end c = c.requires.line.high

pub slice_bounds-line-start : goal.slice_bounds-line-start
slice_bounds-line-start c = low-end c.requires.line

pub overflow_add-result : goal.overflow_add-result
overflow_add-result c = reached-fits c.requires.short c.requires.reached
