use Rattle.std.proofs.Common.{sym, ap, ◌∙◌}
use Rattle.ed_form.specs.PlainEdit.{lines_of}
use Rattle.ed_form.specs.Texts.{goes_on}
use Rattle.ed_form.proofs.Bounds.{low-end}
use Rattle.ed_form.proofs.added.end_of_next.Goals as goal

pub next_line-requires : goal.next_line-requires
next_line-requires c = c.requires.within

pub slice_bounds-takes-count : goal.slice_bounds-takes-count
slice_bounds-takes-count c = low-end c.in_ok-end.ensures

pub slice_bounds-takes-start : goal.slice_bounds-takes-start
slice_bounds-takes-start c = low-end c.in_ok-end.ensures

pub slice_bounds-takes-end : goal.slice_bounds-takes-end
slice_bounds-takes-end c = c.in_ok-end.ensures.high

pub takes-requires : goal.takes-requires
takes-requires c = c.requires.lies

pub returns-in_err-end : goal.returns-in_err-end
returns-in_err-end c = rw c.from_residual.ensures (ap (goes_on c.args.part (lines_of c.args.text.now c.args.added.now)) c.in_err-end.ensures.1)

pub returns-then-takes : goal.returns-then-takes
returns-then-takes c = (c.in_ok-end.ensures, sym c.if-takes.ensures)

pub returns-else-takes : goal.returns-else-takes
returns-else-takes c = ap (goes_on c.args.part (lines_of c.args.text.now c.args.added.now)) c.in_ok-end.ensures.first ∙ sym c.if-takes.ensures
