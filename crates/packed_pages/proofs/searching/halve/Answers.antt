use Rattle.std.proofs.Common.{arith}
use Rattle.packed_pages.proofs.searching.halve.Goals as goal

pub returns-in-Err : goal.returns-in-Err
returns-in-Err g c = record {
  passes = c.in-Err.ensures.passes;
  told = c.in-Err.ensures.told;
  reads = c.in-Err.ensures.reads;
  span = tt;
  half = tt;
  entries = tt;
  cause = c.in-Err.ensures.cause;
}

pub returns-then-first-k : goal.returns-then-first-k
returns-then-first-k g c = record {
  passes = c.in-Ok.ensures.passes;
  told = c.in-Ok.ensures.told;
  reads = c.in-Ok.ensures.reads;
  span = record { some = omega arith; high = c.requires.span.high; first = c.if-first-k.true; next = c.requires.span.next };
  half = omega arith;
  entries = λ b told. record { first = c.in-Ok.ensures.entry b told; next = (c.requires.entries b told).next };
  cause = tt;
}

pub returns : goal.returns
returns g c = record {
  passes = c.in-Ok.ensures.passes;
  told = c.in-Ok.ensures.told;
  reads = c.in-Ok.ensures.reads;
  span = record { some = omega arith; high = omega (arith, c.requires.span.high); first = c.requires.span.first; next = omega arith };
  half = omega arith;
  entries = λ b told. record { first = (c.requires.entries b told).first; next = c.in-Ok.ensures.entry b told };
  cause = tt;
}

pub read_entry-requires-clause-layout : goal.read_entry-requires-clause-layout
read_entry-requires-clause-layout g c = c.requires.layout

pub read_entry-requires-clause-packs : goal.read_entry-requires-clause-packs
read_entry-requires-clause-packs g c = c.requires.packs
