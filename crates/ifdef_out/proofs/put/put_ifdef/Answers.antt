use Rattle.std.proofs.Common.{subst}
use Rattle.hunk_apply.specs.declared.ApplyFault.{ApplyFault}
use Rattle.hunk_apply.specs.Faults.{HasApplyCause}
use Rattle.ifdef_out.proofs.PlacedLemmas.{change-order}
use Rattle.ifdef_out.proofs.put.put_ifdef.Goals as goal

pub returns-in-Ok : goal.returns-in-Ok
returns-in-Ok g c = record {
  received = λ lines told. c.in-Ok.ensures.received lines told (change-order lines c.args.text.now c.args.side c.args.verdicts.now c.args.patch.now.change c.requires.lawful (c.requires.placed lines told));
  part = tt;
  keeps = c.in-Ok.ensures.keeps;
  sink = c.in-Ok.ensures.sink;
  rest = c.in-Ok.ensures.rest;
  cause = tt;
}

pub returns-in-Err-Line : goal.returns-in-Err-Line
returns-in-Err-Line g c = record {
  received = tt;
  part = λ lines told. c.in-Err-Line.ensures.part lines told (change-order lines c.args.text.now c.args.side c.args.verdicts.now c.args.patch.now.change c.requires.lawful (c.requires.placed lines told));
  keeps = c.in-Err-Line.ensures.keeps;
  sink = c.in-Err-Line.ensures.sink;
  rest = c.in-Err-Line.ensures.rest;
  cause = subst (λ (f : ApplyFault). HasApplyCause f (g.S.LineStore.seen c.args.store.now) (g.S.LineStore.seen c.put_blocks.new.store) (g.O.Sink.view c.args.out.now) (g.O.Sink.view c.put_blocks.new.out)) c.in-Err-Line.field-0-is c.in-Err-Line.ensures.cause;
}

pub returns-in-Err-Write : goal.returns-in-Err-Write
returns-in-Err-Write g c = record {
  received = tt;
  part = λ lines told. c.in-Err-Write.ensures.part lines told (change-order lines c.args.text.now c.args.side c.args.verdicts.now c.args.patch.now.change c.requires.lawful (c.requires.placed lines told));
  keeps = c.in-Err-Write.ensures.keeps;
  sink = c.in-Err-Write.ensures.sink;
  rest = c.in-Err-Write.ensures.rest;
  cause = subst (λ (f : ApplyFault). HasApplyCause f (g.S.LineStore.seen c.args.store.now) (g.S.LineStore.seen c.put_blocks.new.store) (g.O.Sink.view c.args.out.now) (g.O.Sink.view c.put_blocks.new.out)) c.in-Err-Write.field-0-is c.in-Err-Write.ensures.cause;
}
