use Rattle.std.proofs.Common.{◌<◌, length, sym, ◌∙◌, ap}
use Rattle.ed_form.proofs.Lasts.{last-double}
use Rattle.ed_form.proofs.Bounds.{below-last, last-lies, some-spans, no-spans}
use Rattle.ed_form.specs.PlainEdit.{lines_of}
use Rattle.ed_form.specs.Texts.{ends_double}
use Rattle.ed_form.proofs.added.has_double.Goals as goal

pub returns : goal.returns
returns c =
    let some : 0 < length c.args.added.now = some-spans c.args.added.now c.if-is_empty.ensures in
    c.is_line.ensures ∙ sym (last-double c.args.text.now c.args.added.now _ some)

pub overflow_sub-last : goal.overflow_sub-last
overflow_sub-last c = some-spans c.args.added.now c.if-is_empty.ensures

pub bounds-added-added : goal.bounds-added-added
bounds-added-added c = below-last c.args.added.now c.if-is_empty.ensures

pub slice_bounds-is_line-count : goal.slice_bounds-is_line-count
slice_bounds-is_line-count c = (last-lies c.args.text.now c.args.added.now _ c.if-is_empty.ensures c.requires).0

pub slice_bounds-is_line-start : goal.slice_bounds-is_line-start
slice_bounds-is_line-start c = (last-lies c.args.text.now c.args.added.now (record { start = 0; end = 0 }) c.if-is_empty.ensures c.requires).0

pub slice_bounds-is_line-end : goal.slice_bounds-is_line-end
slice_bounds-is_line-end c = (last-lies c.args.text.now c.args.added.now (record { start = 0; end = 0 }) c.if-is_empty.ensures c.requires).1

pub returns-then-is_empty : goal.returns-then-is_empty
returns-then-is_empty c = sym (ap (λ l. ends_double (lines_of c.args.text.now l)) (no-spans c.args.added.now c.if-is_empty.ensures))
