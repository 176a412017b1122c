use Rattle.std.proofs.Common.{◌∙◌, ap, slice_range}
use Rattle.std.proofs.lemmas.List.{take_rest}
use Rattle.line_list.specs.Lines.{lines}
use Rattle.filter_style.specs.Fronts.{place_of}
use Rattle.cli_tool_words.specs.PlainJobs.{plain_style}
use Rattle.filter_style.proofs.Lined.{front-none, front-more, front-all}
use Rattle.filter_style.proofs.fronts.put_parts.Goals as goal

pub lines-init : goal.lines-init
lines-init c = front-none (plain_style c.args.style.now) c.args.form c.args.parts c.args.text.now c.args.out.now.items

pub lines-preserved : goal.lines-preserved
lines-preserved c =
    let text = c.args.text.now in
    let place = c.place_of-place.ensures ∙ ap (λ r. place_of c.args.form c.lines.place (slice_range text c.lines.at c.in-Some.end) (lines r)) (take_rest text c.in-Some.end) in
    front-more (plain_style c.args.style.now) c.args.form c.args.parts c.args.text.now c.args.out.now.items c.lines.out.items c.put_line.new.out.items c.lines.place c.place_of-place.result
    c.lines.at c.in-Some.end c.lines.invariant c.in-Some.ensures place c.in_ok-put_line.ensures

pub returns : goal.returns
returns c =
    front-all (plain_style c.args.style.now) c.args.form c.args.parts c.args.text.now c.args.out.now.items c.lines.out.items c.lines.place c.lines.at
    c.lines.invariant c.in_default.ensures.1
