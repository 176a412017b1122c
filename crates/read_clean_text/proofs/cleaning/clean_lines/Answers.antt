use Rattle.read_clean_text.proofs.CleanedLines.{has-all, has-more}
use Rattle.read_clean_text.proofs.cleaning.clean_lines.Goals as goal

pub lines-preserved : goal.lines-preserved
lines-preserved c =
    let here = c.lines.here in
    has-more c.args.keeps c.args.returns.now c.args.text.now c.args.patches.now c.lines.out.items c.put_line.new.out.items here.from here.at here.next c.in-Some.end c.patch_at-next.result c.bare_length.result c.loses_at-loses.result
    c.lines.invariant c.in-Some.ensures c.patch_at-next.ensures c.loses_at-loses.ensures c.in_ok-put_line.ensures c.bare_length.ensures.is c.bare_length.ensures.less

pub returns : goal.returns
returns c = has-all c.args.keeps c.args.returns.now c.args.text.now c.args.patches.now c.lines.out.items c.lines.here.from c.lines.here.at c.lines.here.next c.lines.invariant c.in_default.ensures.1
