use Rattle.std.proofs.Common.{refl, sym, ◌∙◌}
use Rattle.outside.proofs.Exits.{if_ok_none}
use Rattle.page_pair.proofs.Pieces.{size-there, tree-fault}
use Rattle.page_pair.proofs.reading.size_of.Goals as goal

pub returns : goal.returns
returns g c = record {
  untouched = c.in_ok-size.ensures.untouched;
  size = λ text told. size-there (g.T.Tree.view c.args.tree.now).told c.args.name.now text c.in_ok-size.field-0 told c.in_ok-size.ensures.size ∙ sym c.unwrap_or.ensures;
  cause = tt;
}

pub returns-in_err-size : goal.returns-in_err-size
returns-in_err-size g c = record {
  untouched = c.in_err-size.ensures.untouched;
  size = if_ok_none _ _ c.from_residual.result c.from_residual.ensures.1;
  cause = tree-fault (g.T.Tree.view c.args.tree.now) (g.T.Tree.view c.size.new.self) c.from_residual.result c.from_residual.ensures.1 (c.in_err-size.ensures.call.cause refl);
}
