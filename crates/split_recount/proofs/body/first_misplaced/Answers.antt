use Rattle.std.proofs.Common.{refl, sym, ◌∙◌}
use Rattle.split_recount.specs.Measured.{body_at}
use Rattle.split_recount.proofs.Misplaced.{found-here, search-further, not-there}
use Rattle.split_recount.proofs.Bounds.{low-end, nearer, number-fits}
use Rattle.split_recount.proofs.body.first_misplaced.Goals as goal

pub lines-init : goal.lines-init
lines-init c = record { within = c.requires.within; small = c.requires.small; sides = c.requires.sides; same = refl }

pub lines-preserved : goal.lines-preserved
lines-preserved c =
    search-further c.args.text.now _ c.lines.at c.lines.number c.lines.before c.lines.left c.in-Some.end c.mark_of-mark.result c.one_less-left.result c.is_misplaced.result c.lines.invariant
    (record { mark_is = c.mark_of-mark.ensures; goes = c.in-Some.ensures; less = c.one_less-left.ensures }) c.is_misplaced.ensures c.if-is_misplaced.false

pub returns-then-is_misplaced : goal.returns-then-is_misplaced
returns-then-is_misplaced c =
    sym (found-here c.args.text.now _ c.lines.at c.lines.number c.lines.before c.lines.left c.in-Some.end c.mark_of-mark.result c.one_less-left.result c.is_misplaced.result c.lines.invariant
    (record { mark_is = c.mark_of-mark.ensures; goes = c.in-Some.ensures; less = c.one_less-left.ensures }) c.is_misplaced.ensures c.if-is_misplaced.true)

pub returns : goal.returns
returns c = sym (c.lines.invariant.same ∙ not-there c.lines.before c.lines.number (body_at c.args.text.now c.lines.at) c.in_default.ensures)

pub body_line-requires : goal.body_line-requires
body_line-requires c = c.lines.invariant.within

pub slice_bounds-line-start : goal.slice_bounds-line-start
slice_bounds-line-start c = low-end c.in-Some.ensures.0

pub slice_bounds-line-count : goal.slice_bounds-line-count
slice_bounds-line-count c = low-end c.in-Some.ensures.0

pub slice_bounds-line-end : goal.slice_bounds-line-end
slice_bounds-line-end c = c.in-Some.ensures.0.high

pub overflow_add-number : goal.overflow_add-number
overflow_add-number c = number-fits c.lines.number c.lines.at _ c.lines.invariant.small c.lines.invariant.within c.requires.short

pub lines-smaller : goal.lines-smaller
lines-smaller c = nearer c.in-Some.ensures.0
