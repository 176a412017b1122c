use Rattle.filter_style.proofs.Lined.{lines-more, lines-all}
use Rattle.filter_style.proofs.hunks.put_lines.Goals as goal

pub lines-preserved : goal.lines-preserved
lines-preserved c =
    lines-more c.args.clean c.args.note.now c.args.form c.args.text.now c.args.out.now.items c.lines.out.items c.put_hunk_line.new.out.items c.lines.at c.in-Some.end
    c.lines.invariant c.in-Some.ensures c.in_ok-put_hunk_line.ensures

pub returns : goal.returns
returns c = lines-all c.args.clean c.args.note.now c.args.form c.args.text.now c.args.out.now.items c.lines.out.items c.lines.at c.lines.invariant c.in_default.ensures.1
