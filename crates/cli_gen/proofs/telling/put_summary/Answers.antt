use Rattle.std.proofs.Common.{codes}
use Rattle.outside.proofs.Writing.{writes_stop, writes_then}
use Rattle.cli_gen.specs.Summary.{behind_files, behind_hunks, behind_applied, behind_moved, behind_bytes}
use Rattle.cli_gen.proofs.telling.put_summary.Goals as goal

pub returns-in_err-put_field : goal.returns-in_err-put_field
returns-in_err-put_field g c = record {
  writes = writes_stop c.in_err-put_field.field-0.0 c.from_residual.result (behind_files c.args.s.hunks c.args.s.applied c.args.s.moved c.args.s.bytes c.args.s.status) c.from_residual.ensures.0 c.in_err-put_field.ensures.writes;
  rest = c.put_field.ensures.rest;
}

pub returns-in_err-put_field-2 : goal.returns-in_err-put_field-2
returns-in_err-put_field-2 g c = record {
  writes = writes_then c.in_ok-put_field.field-0 c.from_residual-in_err-put_field-2.result c.in_ok-put_field.ensures.writes (
      writes_stop c.in_err-put_field-2.field-0.0 c.from_residual-in_err-put_field-2.result (behind_hunks c.args.s.applied c.args.s.moved c.args.s.bytes c.args.s.status) c.from_residual-in_err-put_field-2.ensures.0 c.in_err-put_field-2.ensures.writes);
  rest = g.met.O.Sink.rest_both c.args.out.now c.put_field.new.out c.put_field-2.new.out (c.put_field.ensures.rest) c.put_field-2.ensures.rest;
}

pub returns-in_err-put_field-3 : goal.returns-in_err-put_field-3
returns-in_err-put_field-3 g c = record {
  writes = writes_then c.in_ok-put_field.field-0 c.from_residual-in_err-put_field-3.result c.in_ok-put_field.ensures.writes (
      writes_then c.in_ok-put_field-2.field-0 c.from_residual-in_err-put_field-3.result c.in_ok-put_field-2.ensures.writes (
      writes_stop c.in_err-put_field-3.field-0.0 c.from_residual-in_err-put_field-3.result (behind_applied c.args.s.moved c.args.s.bytes c.args.s.status) c.from_residual-in_err-put_field-3.ensures.0 c.in_err-put_field-3.ensures.writes));
  rest = g.met.O.Sink.rest_both c.args.out.now c.put_field-2.new.out c.put_field-3.new.out (g.met.O.Sink.rest_both c.args.out.now c.put_field.new.out c.put_field-2.new.out (c.put_field.ensures.rest) c.put_field-2.ensures.rest) c.put_field-3.ensures.rest;
}

pub returns-in_err-put_field-4 : goal.returns-in_err-put_field-4
returns-in_err-put_field-4 g c = record {
  writes = writes_then c.in_ok-put_field.field-0 c.from_residual-in_err-put_field-4.result c.in_ok-put_field.ensures.writes (
      writes_then c.in_ok-put_field-2.field-0 c.from_residual-in_err-put_field-4.result c.in_ok-put_field-2.ensures.writes (
      writes_then c.in_ok-put_field-3.field-0 c.from_residual-in_err-put_field-4.result c.in_ok-put_field-3.ensures.writes (
      writes_stop c.in_err-put_field-4.field-0.0 c.from_residual-in_err-put_field-4.result (behind_moved c.args.s.bytes c.args.s.status) c.from_residual-in_err-put_field-4.ensures.0 c.in_err-put_field-4.ensures.writes)));
  rest = g.met.O.Sink.rest_both c.args.out.now c.put_field-3.new.out c.put_field-4.new.out (g.met.O.Sink.rest_both c.args.out.now c.put_field-2.new.out c.put_field-3.new.out (g.met.O.Sink.rest_both c.args.out.now c.put_field.new.out c.put_field-2.new.out (c.put_field.ensures.rest) c.put_field-2.ensures.rest) c.put_field-3.ensures.rest) c.put_field-4.ensures.rest;
}

pub returns-in_err-put_field-5 : goal.returns-in_err-put_field-5
returns-in_err-put_field-5 g c = record {
  writes = writes_then c.in_ok-put_field.field-0 c.from_residual-in_err-put_field-5.result c.in_ok-put_field.ensures.writes (
      writes_then c.in_ok-put_field-2.field-0 c.from_residual-in_err-put_field-5.result c.in_ok-put_field-2.ensures.writes (
      writes_then c.in_ok-put_field-3.field-0 c.from_residual-in_err-put_field-5.result c.in_ok-put_field-3.ensures.writes (
      writes_then c.in_ok-put_field-4.field-0 c.from_residual-in_err-put_field-5.result c.in_ok-put_field-4.ensures.writes (
      writes_stop c.in_err-put_field-5.field-0.0 c.from_residual-in_err-put_field-5.result (behind_bytes c.args.s.status) c.from_residual-in_err-put_field-5.ensures.0 c.in_err-put_field-5.ensures.writes))));
  rest = g.met.O.Sink.rest_both c.args.out.now c.put_field-4.new.out c.put_field-5.new.out (g.met.O.Sink.rest_both c.args.out.now c.put_field-3.new.out c.put_field-4.new.out (g.met.O.Sink.rest_both c.args.out.now c.put_field-2.new.out c.put_field-3.new.out (g.met.O.Sink.rest_both c.args.out.now c.put_field.new.out c.put_field-2.new.out (c.put_field.ensures.rest) c.put_field-2.ensures.rest) c.put_field-3.ensures.rest) c.put_field-4.ensures.rest) c.put_field-5.ensures.rest;
}

pub returns-in_err-put_field-6 : goal.returns-in_err-put_field-6
returns-in_err-put_field-6 g c = record {
  writes = writes_then c.in_ok-put_field.field-0 c.from_residual-in_err-put_field-6.result c.in_ok-put_field.ensures.writes (
      writes_then c.in_ok-put_field-2.field-0 c.from_residual-in_err-put_field-6.result c.in_ok-put_field-2.ensures.writes (
      writes_then c.in_ok-put_field-3.field-0 c.from_residual-in_err-put_field-6.result c.in_ok-put_field-3.ensures.writes (
      writes_then c.in_ok-put_field-4.field-0 c.from_residual-in_err-put_field-6.result c.in_ok-put_field-4.ensures.writes (
      writes_then c.in_ok-put_field-5.field-0 c.from_residual-in_err-put_field-6.result c.in_ok-put_field-5.ensures.writes (
      writes_stop c.in_err-put_field-6.field-0.0 c.from_residual-in_err-put_field-6.result (codes "\n") c.from_residual-in_err-put_field-6.ensures.0 c.in_err-put_field-6.ensures.writes)))));
  rest = g.met.O.Sink.rest_both c.args.out.now c.put_field-5.new.out c.put_field-6.new.out (g.met.O.Sink.rest_both c.args.out.now c.put_field-4.new.out c.put_field-5.new.out (g.met.O.Sink.rest_both c.args.out.now c.put_field-3.new.out c.put_field-4.new.out (g.met.O.Sink.rest_both c.args.out.now c.put_field-2.new.out c.put_field-3.new.out (g.met.O.Sink.rest_both c.args.out.now c.put_field.new.out c.put_field-2.new.out (c.put_field.ensures.rest) c.put_field-2.ensures.rest) c.put_field-3.ensures.rest) c.put_field-4.ensures.rest) c.put_field-5.ensures.rest) c.put_field-6.ensures.rest;
}

pub returns : goal.returns
returns g c = record {
  writes = writes_then c.in_ok-put_field.field-0 c.put_all.result c.in_ok-put_field.ensures.writes (
      writes_then c.in_ok-put_field-2.field-0 c.put_all.result c.in_ok-put_field-2.ensures.writes (
      writes_then c.in_ok-put_field-3.field-0 c.put_all.result c.in_ok-put_field-3.ensures.writes (
      writes_then c.in_ok-put_field-4.field-0 c.put_all.result c.in_ok-put_field-4.ensures.writes (
      writes_then c.in_ok-put_field-5.field-0 c.put_all.result c.in_ok-put_field-5.ensures.writes (
      writes_then c.in_ok-put_field-6.field-0 c.put_all.result c.in_ok-put_field-6.ensures.writes (
      record { call = c.put_all.ensures.call; received = c.put_all.ensures.received; failed = c.put_all.ensures.failed }))))));
  rest = g.met.O.Sink.rest_both c.args.out.now c.put_field-6.new.out c.put_all.new.out (g.met.O.Sink.rest_both c.args.out.now c.put_field-5.new.out c.put_field-6.new.out (g.met.O.Sink.rest_both c.args.out.now c.put_field-4.new.out c.put_field-5.new.out (g.met.O.Sink.rest_both c.args.out.now c.put_field-3.new.out c.put_field-4.new.out (g.met.O.Sink.rest_both c.args.out.now c.put_field-2.new.out c.put_field-3.new.out (g.met.O.Sink.rest_both c.args.out.now c.put_field.new.out c.put_field-2.new.out (c.put_field.ensures.rest) c.put_field-2.ensures.rest) c.put_field-3.ensures.rest) c.put_field-4.ensures.rest) c.put_field-5.ensures.rest) c.put_field-6.ensures.rest) c.put_all.ensures.rest;
}
