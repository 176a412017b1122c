use Rattle.std.proofs.Common.{◌++◌, refl, arith}
use Rattle.std.proofs.lemmas.Bool.{false≢true}
use Rattle.outside.specs.SinkView.{sink_passes_both, ReceivesPart}
use Rattle.outside.proofs.Exits.{if_ok_none, on_ok_none}
use Rattle.line_list.specs.Join.{feed_if}
use Rattle.hunk_apply.proofs.FaultLemmas.{on-err}
use Rattle.hunk_apply.proofs.WrittenLemmas.{receives-both, part-front, part-behind}
use Rattle.hunk_apply.proofs.put.put_line.Goals as goal

pub returns-in_err-put_feed : goal.returns-in_err-put_feed
returns-in_err-put_feed g c = record {
  call = record { passes = c.in_err-put_feed.ensures.call.passes; cause = λ err. c.in_err-put_feed.ensures.call.cause refl };
  rest = c.in_err-put_feed.ensures.rest;
  received = on_ok_none _ _ c.from_residual.result c.from_residual.ensures.1;
  failed = (
      let view = g.O.Sink.view in
      on-err _ (ReceivesPart (view c.args.out.now) (view c.put_feed.new.out) (feed_if c.args.tail.is_open ++ c.args.line.now))
      (part-front (view c.args.out.now) (view c.put_feed.new.out) (feed_if c.args.tail.is_open) c.args.line.now c.in_err-put_feed.ensures.failed));
  end = if_ok_none _ _ c.from_residual.result c.from_residual.ensures.1;
  nothing = if_ok_none _ _ c.from_residual.result c.from_residual.ensures.1;
}

pub returns-in_err-put_all : goal.returns-in_err-put_all
returns-in_err-put_all g c = record {
  failed = (
      let view = g.O.Sink.view in
      on-err _ (ReceivesPart (view c.args.out.now) (view c.put_all.new.out) (feed_if c.args.tail.is_open ++ c.args.line.now))
      (part-behind (view c.args.out.now) (view c.put_feed.new.out) (view c.put_all.new.out) (feed_if c.args.tail.is_open) c.args.line.now c.in_ok-put_feed.ensures.received c.in_err-put_all.ensures.failed));
  call = record {
    passes = sink_passes_both c.in_ok-put_feed.ensures.call.passes c.in_err-put_all.ensures.call.passes;
    cause = λ err small. omega (arith, c.in_err-put_all.ensures.call.cause refl small, c.in_ok-put_feed.ensures.call.passes.counts);
  };
  rest = g.met.O.Sink.rest_both _ _ _ c.in_ok-put_feed.ensures.rest c.in_err-put_all.ensures.rest;
  received = on_ok_none _ _ c.from_residual-in_err-put_all.result c.from_residual-in_err-put_all.ensures.1;
  end = if_ok_none _ _ c.from_residual-in_err-put_all.result c.from_residual-in_err-put_all.ensures.1;
  nothing = if_ok_none _ _ c.from_residual-in_err-put_all.result c.from_residual-in_err-put_all.ensures.1;
}

pub returns : goal.returns
returns g c = record {
  received = (
      let view = g.O.Sink.view in
      receives-both (view c.args.out.now) (view c.put_feed.new.out) (view c.put_all.new.out) (feed_if c.args.tail.is_open) c.args.line.now c.in_ok-put_feed.ensures.received c.in_ok-put_all.ensures.received);
  call = record {
    passes = sink_passes_both c.in_ok-put_feed.ensures.call.passes c.in_ok-put_all.ensures.call.passes;
    cause = λ err. absurd (false≢true err);
  };
  rest = g.met.O.Sink.rest_both _ _ _ c.in_ok-put_feed.ensures.rest c.in_ok-put_all.ensures.rest;
  failed = tt;
  end = c.tail_behind.ensures.end;
  nothing = c.tail_behind.ensures.nothing;
}
