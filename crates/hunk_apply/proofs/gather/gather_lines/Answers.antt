use Rattle.std.proofs.Common.{◌≤◌, length, take, ◌∙◌, sym, subst, arith}
use Rattle.line_store.proofs.StoreLemmas.{keeps-more, cause-more}
use Rattle.outside.proofs.Exits.{if_ok_none}
use Rattle.hunk_apply.specs.Gathering.{Gathers}
use Rattle.hunk_apply.proofs.Steps.{le-both, high-fewer, one-less, fits-more}
use Rattle.hunk_apply.proofs.FaultLemmas.{counted-still, if-err-still}
use Rattle.hunk_apply.proofs.Gathered.{gathers-none, at-some}
use Rattle.hunk_apply.proofs.gather.gather_lines.Goals as goal

pub loop-end-init : goal.loop-end-init
loop-end-init g c = record {
  most = omega arith;
  room = omega arith;
  lines = λ lines told. gathers-none lines c.args.q;
  keeps = c.in_ok-most.ensures.keeps;
}

pub loop-end-preserved : goal.loop-end-preserved
loop-end-preserved g c = record {
  most = omega (arith, at-some c.in_ok-end.field-0 _ c.in-Some.end c.in-Some.is c.in_ok-end.ensures.more);
  room = at-some c.in_ok-end.field-0 _ c.in-Some.end c.in-Some.is c.in_ok-end.ensures.room;
  lines = λ lines told. at-some c.in_ok-end.field-0 _ c.in-Some.end c.in-Some.is c.in_ok-end.ensures.lines lines (c.loop-end.invariant.keeps.told ∙ told) (c.loop-end.invariant.lines lines told);
  keeps = keeps-more _ _ _ c.loop-end.invariant.keeps c.in_ok-end.ensures.keeps;
}

pub gather_line-requires-clause-counted : goal.gather_line-requires-clause-counted
gather_line-requires-clause-counted g c = counted-still _ _ c.requires.counted c.loop-end.invariant.keeps

pub loop-end-smaller : goal.loop-end-smaller
loop-end-smaller g c = one-less c.in_ok-most.most c.loop-end.count (at-some c.in_ok-end.field-0 _ c.in-Some.end c.in-Some.is c.in_ok-end.ensures.more)

pub overflow_add-count : goal.overflow_add-count
overflow_add-count g c = fits-more c.loop-end.count c.in_ok-most.most c.args.most (at-some c.in_ok-end.field-0 _ c.in-Some.end c.in-Some.is c.in_ok-end.ensures.more) c.in_ok-most.ensures.most c.ranges.most

pub returns : goal.returns
returns g c = record {
  lines = λ lines told. subst (λ block. Gathers lines c.args.q c.loop-end.count (take c.loop-end.bytes block)) (sym (c.in_ok-end.ensures.stays c.in_default.is)) (c.loop-end.invariant.lines lines told);
  room = subst (λ block. c.loop-end.bytes ≤ length block) (sym (c.in_ok-end.ensures.stays c.in_default.is)) c.loop-end.invariant.room;
  keeps = keeps-more _ _ _ c.loop-end.invariant.keeps c.in_ok-end.ensures.keeps;
  most = le-both c.loop-end.count c.in_ok-most.most c.args.most c.loop-end.invariant.most c.in_ok-most.ensures.most;
  cause = tt;
}

pub returns-in_err-end : goal.returns-in_err-end
returns-in_err-end g c = record {
  cause = if-err-still _ c.in_err-end.field-0.0 c.from_residual-in_err-end.result c.from_residual-in_err-end.ensures.1 (cause-more c.in_err-end.field-0.0 _ _ _ c.loop-end.invariant.keeps c.in_err-end.ensures.cause);
  keeps = keeps-more _ _ _ c.loop-end.invariant.keeps c.in_err-end.ensures.keeps;
  lines = if_ok_none _ _ c.from_residual-in_err-end.result c.from_residual-in_err-end.ensures.1;
  room = if_ok_none _ _ c.from_residual-in_err-end.result c.from_residual-in_err-end.ensures.1;
  most = if_ok_none _ _ c.from_residual-in_err-end.result c.from_residual-in_err-end.ensures.1;
}

pub returns-in_err-most : goal.returns-in_err-most
returns-in_err-most g c = record {
  cause = if-err-still _ c.in_err-most.field-0.0 c.from_residual.result c.from_residual.ensures.1 c.in_err-most.ensures.cause;
  keeps = c.in_err-most.ensures.keeps;
  lines = if_ok_none _ _ c.from_residual.result c.from_residual.ensures.1;
  room = if_ok_none _ _ c.from_residual.result c.from_residual.ensures.1;
  most = if_ok_none _ _ c.from_residual.result c.from_residual.ensures.1;
}

pub gather_line-requires-clause-low : goal.gather_line-requires-clause-low
gather_line-requires-clause-low g c = c.requires.low

pub gather_line-requires-clause-high : goal.gather_line-requires-clause-high
gather_line-requires-clause-high g c = high-fewer c.args.q c.in_ok-most.most c.args.most (g.S.LineStore.seen c.args.store.now).count (g.S.LineStore.seen c.loop-end.store).count c.in_ok-most.ensures.most c.loop-end.invariant.keeps.count c.requires.high

pub gather_line-requires-clause-room : goal.gather_line-requires-clause-room
gather_line-requires-clause-room g c = c.loop-end.invariant.room

pub apart-requires-clause-some : goal.apart-requires-clause-some
apart-requires-clause-some g c = c.requires.some

pub apart-requires-clause-low : goal.apart-requires-clause-low
apart-requires-clause-low g c = c.requires.low

pub apart-requires-clause-high : goal.apart-requires-clause-high
apart-requires-clause-high g c = c.requires.high
