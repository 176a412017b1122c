use Rattle.std.proofs.Common.{ap, ◌∙◌}
use Rattle.split_recount.specs.Measured.{left_of, with_mark}
use Rattle.split_recount.proofs.Measuring.{measures_begin, measures_more, measures_done}
use Rattle.split_recount.proofs.Bounds.{low-end, nearer, lines-fit, old-small, new-small}
use Rattle.split_recount.proofs.body.measure.Goals as goal

pub lines-init : goal.lines-init
lines-init c = measures_begin c.args.text.now c.args.at c.requires.within

pub lines-preserved : goal.lines-preserved
lines-preserved c =
    measures_more c.args.text.now c.args.at c.lines.body c.in-Some.end c.one_more.result c.or_backslash.result c.lines.invariant c.in-Some.ensures
    (c.one_more.ensures ∙ ap (λ m. with_mark m (left_of c.lines.body.sides)) c.mark_of-mark.ensures) c.or_backslash.ensures

pub returns : goal.returns
returns c = measures_done c.args.text.now c.args.at c.lines.body c.lines.invariant c.in_default.ensures

pub body_line-requires : goal.body_line-requires
body_line-requires c = c.lines.invariant.high

pub slice_bounds-line-start : goal.slice_bounds-line-start
slice_bounds-line-start c = low-end c.in-Some.ensures.0

pub slice_bounds-line-count : goal.slice_bounds-line-count
slice_bounds-line-count c = low-end c.in-Some.ensures.0

pub slice_bounds-line-end : goal.slice_bounds-line-end
slice_bounds-line-end c = c.in-Some.ensures.0.high

pub overflow_add-body : goal.overflow_add-body
overflow_add-body c = lines-fit c.requires.short c.lines.invariant

pub one_more-requires-clause-old : goal.one_more-requires-clause-old
one_more-requires-clause-old c = old-small c.requires.short c.lines.invariant

pub one_more-requires-clause-new : goal.one_more-requires-clause-new
one_more-requires-clause-new c = new-small c.requires.short c.lines.invariant

pub lines-smaller : goal.lines-smaller
lines-smaller c = nearer c.in-Some.ensures.0
