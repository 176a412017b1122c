use Rattle.std.proofs.Common.{◌++◌, length, arith, ap, ◌∙◌}
use Rattle.read_clean_text.proofs.Indenting.{put-all, put-length, put-more}
use Rattle.read_clean_text.proofs.indents.without_indent.Goals as goal

pub lines-preserved : goal.lines-preserved
lines-preserved c =
    let rows = c.lines in
    put-more c.args.indent.now c.args.text.now rows.out.items c.extend_from_slice.new.self.items rows.at c.in-Some.end rows.invariant c.in-Some.ensures
    (c.in_ok-extend_from_slice.ensures.items ∙ ap (λ l. rows.out.items ++ l) c.unindented_line.ensures.is) (omega (arith, c.unindented_line.ensures.less, ap length c.unindented_line.ensures.is))

pub returns : goal.returns
returns c = record {
  is = put-all c.args.indent.now c.args.text.now c.lines.out.items c.lines.at c.lines.invariant c.in_default.ensures.1;
  length = put-length c.args.indent.now c.args.text.now c.lines.out.items c.lines.at c.lines.invariant;
}
