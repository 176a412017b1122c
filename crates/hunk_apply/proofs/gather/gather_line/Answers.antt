use Rattle.std.proofs.Common.{◌≡◌, ◌+◌, ◌≤◌, ◌<◌, ◌++◌, ℕ, List, Some, false, length, take, ◌∙◌, refl, arith}
use Rattle.line_list.specs.Join.{lacks_feed}
use Rattle.line_store.proofs.StoreLemmas.{keeps-same}
use Rattle.outside.proofs.Exits.{if_ok_none}
use Rattle.line_store.specs.Store.{line_at}
use Rattle.hunk_apply.specs.Gathering.{Gathers}
use Rattle.hunk_apply.proofs.Steps.{some-is, low-more, high-more}
use Rattle.hunk_apply.proofs.FaultLemmas.{if-err-still}
use Rattle.hunk_apply.proofs.Gathered.{gathers-more, at-some, if-some-each}
use Rattle.hunk_apply.proofs.gather.gather_line.Goals as goal

pub returns : goal.returns
returns g c = record {
  lines = (
      if-some-each c.add_line.result (λ end. (lines : List (List ℕ)) → (g.S.LineStore.seen c.args.store.now).told ≡ Some lines → Gathers lines c.args.q c.args.count (take c.args.bytes c.args.block.now) → Gathers lines c.args.q (c.args.count + 1) (take end c.add_line.new.block)) (λ end is lines told h.
      let count : (g.S.LineStore.seen c.args.store.now).count ≡ length lines = c.requires.counted lines told in
      let high : c.args.q + c.args.count ≤ length lines = omega (arith, c.requires.high, c.if-count-most.false, count) in
      let line : c.line.result.now ≡ line_at lines (c.args.q + c.args.count) = c.line.ensures lines (c.args.q + c.args.count) (c.in_ok-load.ensures.keeps.told ∙ told) c.in_ok-load.ensures.held in
      gathers-more lines c.args.q c.args.count (take c.args.bytes c.args.block.now) c.line.result.now (take end c.add_line.new.block)
      c.requires.low high line (at-some c.add_line.result (λ e. lacks_feed c.line.result.now ≡ false) end is c.add_line.ensures.fed) (at-some c.add_line.result (λ e. take e c.add_line.new.block ≡ take c.args.bytes c.args.block.now ++ c.line.result.now) end is c.add_line.ensures.added) h));
  more = if-some-each c.add_line.result (λ end. c.args.count < c.args.most) (λ end is. c.if-count-most.false);
  stays = c.add_line.ensures.stays;
  length = c.add_line.ensures.length;
  room = c.add_line.ensures.room;
  keeps = c.in_ok-load.ensures.keeps;
  cause = tt;
}

pub add_line-requires : goal.add_line-requires
add_line-requires g c = c.requires.room

pub line-requires : goal.line-requires
line-requires g c = some-is _ _ c.in_ok-load.ensures.held

pub load-requires-clause-low : goal.load-requires-clause-low
load-requires-clause-low g c = low-more c.args.q c.args.count c.requires.low

pub load-requires-clause-high : goal.load-requires-clause-high
load-requires-clause-high g c = high-more c.args.q c.args.count c.args.most (g.S.LineStore.seen c.args.store.now).count c.if-count-most.false c.requires.high

pub returns-in_err-load : goal.returns-in_err-load
returns-in_err-load g c = record {
  cause = if-err-still _ c.in_err-load.field-0.0 c.from_residual.result c.from_residual.ensures.1 c.in_err-load.ensures.cause;
  keeps = c.in_err-load.ensures.keeps;
  length = refl;
  lines = if_ok_none _ _ c.from_residual.result c.from_residual.ensures.1;
  stays = if_ok_none _ _ c.from_residual.result c.from_residual.ensures.1;
  room = if_ok_none _ _ c.from_residual.result c.from_residual.ensures.1;
  more = if_ok_none _ _ c.from_residual.result c.from_residual.ensures.1;
}

pub returns-then-count-most : goal.returns-then-count-most
returns-then-count-most g c = record { length = refl; more = tt; room = tt; lines = tt; stays = λ none. refl; keeps = keeps-same _; cause = tt }
