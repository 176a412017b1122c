use Rattle.std.proofs.Common.{ℕ, ◌-◌, List, length, take, drop, min, refl, sym, ap, ◌∙◌}
use Rattle.outside.proofs.Exits.{if_ok_none}
use Rattle.page_pair.proofs.Pieces.{piece-bytes, read-there, refilled, tree-fault, unread}
use Rattle.page_pair.proofs.reading.read_piece.Goals as goal

pub returns-in_err-got : goal.returns-in_err-got
returns-in_err-got g c = record {
  untouched = c.in_err-got.ensures.untouched;
  size = refl;
  second = refl;
  pair = refilled c.args.pair.now c.read_at.new.buf c.size.ensures.pair;
  count = if_ok_none _ _ c.from_residual.result c.from_residual.ensures.1;
  bytes = if_ok_none _ _ c.from_residual.result c.from_residual.ensures.1;
  cause = tree-fault (g.T.Tree.view c.args.tree.now) (g.T.Tree.view c.read_at.new.self) c.from_residual.result c.from_residual.ensures.1 (c.in_err-got.ensures.call.cause refl);
}

pub returns-then-got-want : goal.returns-then-got-want
returns-then-got-want g c = record {
  untouched = c.in_ok-got.ensures.untouched;
  size = refl;
  second = refl;
  pair = refilled c.args.pair.now c.read_at.new.buf c.size.ensures.pair;
  count = tt;
  bytes = tt;
  cause = (λ same. c.if-got-want.true (sym same), unread (g.T.Tree.view c.args.tree.now).told c.args.name.now c.read_at.new.buf c.in_ok-got.got (length c.page_mut.result.now) c.args.at c.args.length c.min-want.result (c.min-want.ensures ∙ ap (λ (s : ℕ). min s (c.args.length - c.args.at)) (c.size.ensures.size ∙ sym c.size.ensures.pair.first ∙ sym (ap (λ (l : List ℕ). length l) c.page_mut.ensures.is))) c.if-got-want.true c.read_at.auto.buf c.in_ok-got.ensures.count c.requires.stated c.in_ok-got.ensures.bytes);
}

pub returns : goal.returns
returns g c = record {
  untouched = c.in_ok-got.ensures.untouched;
  size = refl;
  second = refl;
  pair = refilled c.args.pair.now c.read_at.new.buf c.size.ensures.pair;
  count = c.if-got-want.false ∙ c.min-want.ensures ∙ ap (λ (s : ℕ). min s (c.args.length - c.args.at)) c.size.ensures.size;
  bytes = λ text told. (let wide = ap (λ (l : List ℕ). length l) c.page_mut.ensures.is ∙ c.size.ensures.pair.first in piece-bytes c.args.pair.now.size c.in_ok-got.got c.args.pair.now.first c.read_at.new.buf (drop c.args.at text) (c.read_at.auto.buf ∙ wide) (rw (sym wide) c.in_ok-got.ensures.count) (read-there (g.T.Tree.view c.args.tree.now).told c.args.name.now text c.read_at.new.buf c.in_ok-got.got (length c.page_mut.result.now) c.args.at told c.in_ok-got.ensures.bytes ∙ ap (λ (k : ℕ). take k (drop c.args.at text)) wide));
  cause = tt;
}
