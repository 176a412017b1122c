use Rattle.split_recount.proofs.Bounds.{low-end}
use Rattle.split_recount.proofs.Ends.{header-none, header-last, header-two}
use Rattle.split_recount.proofs.body.at_header.Goals as goal

pub slice_bounds-after_prefix-start : goal.slice_bounds-after_prefix-start
slice_bounds-after_prefix-start c = c.requires.low

pub slice_bounds-after_prefix-count : goal.slice_bounds-after_prefix-count
slice_bounds-after_prefix-count c = c.requires.low

pub slice_bounds-after_prefix-end : goal.slice_bounds-after_prefix-end
slice_bounds-after_prefix-end c = c.requires.high

pub next_line-requires : goal.next_line-requires
next_line-requires c = c.requires.high

pub slice_bounds-after_prefix-start-in-Some : goal.slice_bounds-after_prefix-start-in-Some
slice_bounds-after_prefix-start-in-Some c = low-end c.in-Some.ensures

pub slice_bounds-after_prefix-count-in-Some : goal.slice_bounds-after_prefix-count-in-Some
slice_bounds-after_prefix-count-in-Some c = low-end c.in-Some.ensures

pub slice_bounds-after_prefix-end-in-Some : goal.slice_bounds-after_prefix-end-in-Some
slice_bounds-after_prefix-end-in-Some c = c.in-Some.ensures.high

pub returns-then-is_none : goal.returns-then-is_none
returns-then-is_none c = header-none _ _ c.after_prefix.result c.after_prefix.ensures c.if-is_none.ensures

pub returns-in-None : goal.returns-in-None
returns-in-None c = header-last _ _ c.in-None.ensures.1

pub returns-in-Some : goal.returns-in-Some
returns-in-Some c = header-two _ _ c.after_prefix.result c.after_prefix.ensures _ _ c.after_prefix-in-Some.result c.is_some.result c.if-is_none.ensures c.in-Some.ensures.first c.after_prefix-in-Some.ensures c.is_some.ensures
