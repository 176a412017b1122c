use Rattle.read_clean_text.proofs.Bared.{bared-length, bared-more, bared-returns, bared-text}
use Rattle.read_clean_text.proofs.bare.bare_of.Goals as goal

pub lines-preserved : goal.lines-preserved
lines-preserved c =
    bared-more c.args.text.now c.lines.out.items c.put_bare.new.out.items c.lines.returns.items c.push.new.self.items c.lines.at c.in-Some.end c.has_return.result
    c.lines.invariant c.in-Some.ensures c.in_ok-put_bare.ensures c.has_return.ensures.is c.in_ok-push.ensures.items

pub returns : goal.returns
returns c = record {
  text = bared-text c.args.text.now c.lines.out.items c.lines.returns.items c.lines.at c.lines.invariant c.in_default.ensures.1;
  returns = bared-returns c.args.text.now c.lines.out.items c.lines.returns.items c.lines.at c.lines.invariant c.in_default.ensures.1;
  length = bared-length c.args.text.now c.lines.out.items c.lines.returns.items c.lines.at c.lines.invariant c.in_default.ensures.1;
}
