use Rattle.std.proofs.Common.{◌≡◌, ◌+◌, ◌-◌, length, take, min, ap, ◌∙◌, arith}
use Rattle.page_pair.proofs.Opens.{open-some, open-none}
use Rattle.outside.proofs.Exits.{if_ok_none}
use Rattle.page_pair.specs.Reading.{IsReadFault}
use Rattle.page_pair.proofs.Pieces.{behind, below, end-fits, ends-ahead, ends-within, err-as, feed-within, less-fits, piece-whole, small-fits}
use Rattle.page_pair.proofs.long.read_on.Goals as goal

pub returns-in-Some : goal.returns-in-Some
returns-in-Some g c = record {
  goes = λ text told. let len : length text ≡ c.args.length = c.requires.stated text told in
      let n : c.in_ok-got.got ≡ min c.args.pair.now.size (c.args.length - c.args.end) = c.in_ok-got.ensures.count in
      open-some text (take c.in_ok-got.got c.page-piece.result.now) c.args.at c.args.end c.in_ok-got.got c.in-Some.k
      (ap (take c.in_ok-got.got) c.page-piece.ensures.is ∙ c.in_ok-got.ensures.bytes text told) (omega arith) (omega arith) (c.requires.is_open text told) c.in-Some.ensures.0 c.in-Some.ensures.1;
  untouched = c.in_ok-got.ensures.untouched;
  size = c.read_piece.ensures.size;
  low = behind c.args.end c.in-Some.k;
  high = feed-within c.in_ok-got.got c.args.pair.now.size c.args.length c.args.end c.in_ok-got.ensures.count c.requires.high c.page-piece.result.now c.in-Some.k c.in-Some.ensures.0.high;
  cause = tt;
}

pub returns-in-None : goal.returns-in-None
returns-in-None g c = record {
  goes = λ text told. let len : length text ≡ c.args.length = c.requires.stated text told in
      let n : c.in_ok-got.got ≡ min c.args.pair.now.size (c.args.length - c.args.end) = c.in_ok-got.ensures.count in
      open-none text (take c.in_ok-got.got c.page-piece.result.now) c.args.at c.args.end c.in_ok-got.got
      (ap (take c.in_ok-got.got) c.page-piece.ensures.is ∙ c.in_ok-got.ensures.bytes text told) (omega arith) (omega arith) (c.requires.is_open text told) c.in-None.ensures;
  untouched = c.in_ok-got.ensures.untouched;
  size = c.read_piece.ensures.size;
  low = ends-ahead c.in_ok-got.got c.args.pair.now.size c.args.length c.args.end c.in_ok-got.ensures.count c.requires.high (rw (← c.read_piece.ensures.size) c.page-piece.ensures.pair.sized.0);
  high = ends-within c.in_ok-got.got c.args.pair.now.size c.args.length c.args.end c.in_ok-got.ensures.count c.requires.high;
  cause = tt;
}

pub read_piece-requires-clause-there : goal.read_piece-requires-clause-there
read_piece-requires-clause-there g c = c.requires.there

pub read_piece-requires-clause-stated : goal.read_piece-requires-clause-stated
read_piece-requires-clause-stated g c = c.requires.stated

pub read_piece-requires-clause-within : goal.read_piece-requires-clause-within
read_piece-requires-clause-within g c = below _ _ c.requires.high

pub slice_bounds-first_feed-end : goal.slice_bounds-first_feed-end
slice_bounds-first_feed-end g c = piece-whole c.in_ok-got.got c.args.pair.now.size c.args.length c.args.end c.in_ok-got.ensures.count c.requires.high c.page-piece.result.now c.read_piece.new.pair.size (ap length c.page-piece.ensures.is ∙ c.page-piece.ensures.pair.first) c.read_piece.ensures.size

pub overflow_add-result : goal.overflow_add-result
overflow_add-result g c = record { fits = less-fits (c.args.end + c.in-Some.k) c.args.length (feed-within c.in_ok-got.got c.args.pair.now.size c.args.length c.args.end c.in_ok-got.ensures.count c.requires.high c.page-piece.result.now c.in-Some.k c.in-Some.ensures.0.high) c.requires.few }

pub overflow_add-result-in-Some : goal.overflow_add-result-in-Some
overflow_add-result-in-Some g c = record { fits = small-fits (c.args.end + c.in-Some.k + 1) c.args.length (feed-within c.in_ok-got.got c.args.pair.now.size c.args.length c.args.end c.in_ok-got.ensures.count c.requires.high c.page-piece.result.now c.in-Some.k c.in-Some.ensures.0.high) c.requires.few }

pub overflow_add-result-in-None : goal.overflow_add-result-in-None
overflow_add-result-in-None g c = record { fits = end-fits c.in_ok-got.got c.args.pair.now.size c.args.length c.args.end c.in_ok-got.ensures.count c.requires.high c.requires.few }

pub returns-in_err-got : goal.returns-in_err-got
returns-in_err-got g c = record {
  untouched = c.in_err-got.ensures.untouched;
  size = c.read_piece.ensures.size;
  low = if_ok_none _ _ c.from_residual.result c.from_residual.ensures.1;
  high = if_ok_none _ _ c.from_residual.result c.from_residual.ensures.1;
  goes = if_ok_none _ _ c.from_residual.result c.from_residual.ensures.1;
  cause = err-as (λ e. IsReadFault e (g.T.Tree.view c.args.tree.now) (g.T.Tree.view c.read_piece.new.tree)) c.in_err-got.field-0.0 c.from_residual.result c.from_residual.ensures.1 c.in_err-got.ensures.cause;
}
