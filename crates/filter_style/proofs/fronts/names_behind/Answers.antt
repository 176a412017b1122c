use Rattle.std.proofs.Common.{◌∙◌, ap, slice_range, sym}
use Rattle.std.proofs.lemmas.List.{take_rest}
use Rattle.line_list.specs.Lines.{lines}
use Rattle.filter_style.specs.Fronts.{is_pair}
use Rattle.filter_style.proofs.Lined.{passed-none, passed-more, passed-stop, passed-pair, passed-all}
use Rattle.filter_style.proofs.fronts.names_behind.Goals as goal

pub lines-init : goal.lines-init
lines-init c = passed-none c.args.form c.args.any c.args.text.now

pub lines-preserved : goal.lines-preserved
lines-preserved c =
    let text = c.args.text.now in
    let pair = c.is_pair.ensures ∙ ap (λ r. is_pair c.args.form (slice_range text c.lines.at c.in-Some.end) (lines r)) (take_rest text c.in-Some.end) in
    passed-more c.args.form c.args.any c.args.text.now c.lines.at c.in-Some.end c.lines.invariant c.in-Some.ensures c.is_pair.result c.passes.result pair c.passes.ensures
    c.if-is_pair.false c.if-not-passes.false

pub returns-then-is_pair : goal.returns-then-is_pair
returns-then-is_pair c =
    let text = c.args.text.now in
    let pair = c.is_pair.ensures ∙ ap (λ r. is_pair c.args.form (slice_range text c.lines.at c.in-Some.end) (lines r)) (take_rest text c.in-Some.end) in
    passed-pair c.args.form c.args.any c.args.text.now c.lines.at c.in-Some.end c.lines.invariant c.in-Some.ensures (sym pair ∙ c.if-is_pair.true)

pub returns-then-not-passes : goal.returns-then-not-passes
returns-then-not-passes c =
    let text = c.args.text.now in
    let pair = c.is_pair.ensures ∙ ap (λ r. is_pair c.args.form (slice_range text c.lines.at c.in-Some.end) (lines r)) (take_rest text c.in-Some.end) in
    passed-stop c.args.form c.args.any c.args.text.now c.lines.at c.in-Some.end c.lines.invariant c.in-Some.ensures c.is_pair.result c.passes.result pair c.passes.ensures
    c.if-is_pair.false c.if-not-passes.true

pub returns : goal.returns
returns c = passed-all c.args.form c.args.any c.args.text.now c.lines.at c.lines.invariant c.in_default.ensures.1
