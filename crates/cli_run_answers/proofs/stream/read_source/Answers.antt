use Rattle.std.proofs.Common.{◌++◌, length, drop, ap, arith, length-take, length-append}
use Rattle.cli_run_answers.proofs.stream.read_source.Goals as goal

pub pieces-preserved : goal.pieces-preserved
pieces-preserved g c =
    let piece = c.read_on.new.piece in
    let rest = drop (length piece) c.pieces.piece.items in
    record {
      some = omega (
        arith,
        c.pieces.invariant.some,
        c.read_on.auto.piece,
        c.deref_mut.ensures.len,
        ap length c.deref_mut.ensures.value,
        length-take c.pieces.piece.len (piece ++ rest),
        length-append piece rest,
      );
      room = c.in_ok-more.ensures.short;
      taken = c.in_ok-more.ensures.text _ c.pieces.invariant.taken;
    }

pub returns-in_err-more-clause-taken : goal.returns-in_err-more-clause-taken
returns-in_err-more-clause-taken g c = c.read_on.ensures.taken _ c.pieces.invariant.taken

pub returns-then-not-more : goal.returns-then-not-more
returns-then-not-more g c =
    let taken = c.in_ok-more.ensures.text _ c.pieces.invariant.taken in
    record {
      passes = taken.passes;
      short = c.in_ok-more.ensures.short;
      text = taken;
      end = c.in_ok-more.ensures.end c.if-not-more.true;
      taken = c.read_on.ensures.taken _ c.pieces.invariant.taken;
      cause = tt;
    }
