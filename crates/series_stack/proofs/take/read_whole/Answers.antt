use Rattle.std.proofs.Common.{arith, length, refl, subst, sym, ◌≤◌}
use Rattle.series_stack.proofs.Taking.{fewer_untold, whole-came}
use Rattle.series_stack.specs.Taking.{HasSize}
use Rattle.outside.specs.Files.{bytes_at}
use Rattle.series_stack.proofs.take.read_whole.Goals as goal

pub returns-in-Err-came : goal.returns-in-Err-came
returns-in-Err-came g c = record {
  untouched = c.in-Ok.ensures.untouched;
  bytes = tt;
  cause = (
      let fewer = c.in-Err-came.ensures.fewer in
      rw fewer.0 (
        omega (arith, fewer.1),
        fewer_untold (g.T.Tree.view c.args.tree.now) c.args.name.now c.args.buf.now c.read_at.new.buf c.in-Ok.count (omega (arith, fewer.1)) c.read_at.auto.buf c.requires.long c.in-Ok.ensures.bytes,
      ));
  size = subst (HasSize (length c.args.buf.now)) (sym c.in-Err-came.ensures.fewer.0) c.read_at.auto.buf;
}

pub returns-in-Ok-came-clause-bytes : goal.returns-in-Ok-came-clause-bytes
returns-in-Ok-came-clause-bytes g c = λ f told. whole-came c.args.buf.now c.read_at.new.buf (bytes_at f c.args.name.now) c.in-Ok.count c.read_at.auto.buf (subst (λ n. n ≤ c.in-Ok.count) c.read_at.auto.buf c.in-Ok-came.ensures.whole) (c.requires.long f told) (c.in-Ok.ensures.bytes f told)

pub returns-in-Err-clause-cause : goal.returns-in-Err-clause-cause
returns-in-Err-clause-cause g c = c.in-Err.ensures.call.cause refl

pub returns-in-Ok-came-clause-untouched : goal.returns-in-Ok-came-clause-untouched
returns-in-Ok-came-clause-untouched g c = c.in-Ok.ensures.untouched

pub returns-in-Err-clause-untouched : goal.returns-in-Err-clause-untouched
returns-in-Err-clause-untouched g c = c.in-Err.ensures.untouched
