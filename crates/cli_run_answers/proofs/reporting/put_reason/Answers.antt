use Rattle.cli_run_answers.specs.Reasons.{behind_front, behind_first, behind_middle}
use Rattle.outside.proofs.Writing.{stop_all, then_all, writes_stop, writes_then}
use Rattle.cli_run_answers.proofs.reporting.put_reason.Goals as goal

pub returns-in_err-put_all : goal.returns-in_err-put_all
returns-in_err-put_all g c = record {
  writes = stop_all c.in_err-put_all.field-0.0 c.from_residual.result c.args.reason.now.front.now (behind_front c.args.reason.now) c.from_residual.ensures.0 c.in_err-put_all.ensures.call c.in_err-put_all.ensures.failed;
  rest = c.in_err-put_all.ensures.rest;
}

pub returns-in_err-put_decimal : goal.returns-in_err-put_decimal
returns-in_err-put_decimal g c =
    let r = c.args.reason.now in
    let s = c.from_residual-in_err-put_decimal.result in
    let is = c.from_residual-in_err-put_decimal.ensures.0 in
    record {
      writes = then_all c.in_ok-put_all.field-0 s r.front.now (behind_front r) c.in_ok-put_all.ensures.call c.in_ok-put_all.ensures.received
          (writes_stop c.in_err-put_decimal.field-0.0 s (behind_first r) is c.in_err-put_decimal.ensures.writes);
      rest = g.met.E.Sink.rest_both _ _ _ c.in_ok-put_all.ensures.rest c.in_err-put_decimal.ensures.rest;
    }

pub returns-in_err-put_all-2 : goal.returns-in_err-put_all-2
returns-in_err-put_all-2 g c =
    let r = c.args.reason.now in
    let s = c.from_residual-in_err-put_all-2.result in
    let is = c.from_residual-in_err-put_all-2.ensures.0 in
    record {
      writes = then_all c.in_ok-put_all.field-0 s r.front.now (behind_front r) c.in_ok-put_all.ensures.call c.in_ok-put_all.ensures.received
          (writes_then c.in_ok-put_decimal.field-0 s c.in_ok-put_decimal.ensures.writes
          (stop_all c.in_err-put_all-2.field-0.0 s r.middle.now (behind_middle r) is c.in_err-put_all-2.ensures.call c.in_err-put_all-2.ensures.failed));
      rest = g.met.E.Sink.rest_both _ _ _ (g.met.E.Sink.rest_both _ _ _ c.in_ok-put_all.ensures.rest c.in_ok-put_decimal.ensures.rest) c.in_err-put_all-2.ensures.rest;
    }

pub returns-in_err-put_decimal-2 : goal.returns-in_err-put_decimal-2
returns-in_err-put_decimal-2 g c =
    let r = c.args.reason.now in
    let s = c.from_residual-in_err-put_decimal-2.result in
    let is = c.from_residual-in_err-put_decimal-2.ensures.0 in
    record {
      writes = then_all c.in_ok-put_all.field-0 s r.front.now (behind_front r) c.in_ok-put_all.ensures.call c.in_ok-put_all.ensures.received
          (writes_then c.in_ok-put_decimal.field-0 s c.in_ok-put_decimal.ensures.writes
          (then_all c.in_ok-put_all-2.field-0 s r.middle.now (behind_middle r) c.in_ok-put_all-2.ensures.call c.in_ok-put_all-2.ensures.received
          (writes_stop c.in_err-put_decimal-2.field-0.0 s r.end.now is c.in_err-put_decimal-2.ensures.writes)));
      rest = g.met.E.Sink.rest_both _ _ _ (g.met.E.Sink.rest_both _ _ _ c.in_ok-put_all.ensures.rest c.in_ok-put_decimal.ensures.rest)
          (g.met.E.Sink.rest_both _ _ _ c.in_ok-put_all-2.ensures.rest c.in_err-put_decimal-2.ensures.rest);
    }

pub returns : goal.returns
returns g c =
    let r = c.args.reason.now in
    let s = c.put_all-3.result in
    let last = c.put_all-3.ensures in
    record {
      writes = then_all c.in_ok-put_all.field-0 s r.front.now (behind_front r) c.in_ok-put_all.ensures.call c.in_ok-put_all.ensures.received
          (writes_then c.in_ok-put_decimal.field-0 s c.in_ok-put_decimal.ensures.writes
          (then_all c.in_ok-put_all-2.field-0 s r.middle.now (behind_middle r) c.in_ok-put_all-2.ensures.call c.in_ok-put_all-2.ensures.received
          (writes_then c.in_ok-put_decimal-2.field-0 s c.in_ok-put_decimal-2.ensures.writes (record { call = last.call; received = last.received; failed = last.failed }))));
      rest = g.met.E.Sink.rest_both _ _ _ (g.met.E.Sink.rest_both _ _ _ c.in_ok-put_all.ensures.rest c.in_ok-put_decimal.ensures.rest)
          (g.met.E.Sink.rest_both _ _ _ (g.met.E.Sink.rest_both _ _ _ c.in_ok-put_all-2.ensures.rest c.in_ok-put_decimal-2.ensures.rest) last.rest);
    }
