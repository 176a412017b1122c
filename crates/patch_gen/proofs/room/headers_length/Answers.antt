use Rattle.std.proofs.Common.{◌+◌, ◌*◌, refl, arith}
use Rattle.patch_gen.specs.Patches.{header_lines}
use Rattle.patch_gen.proofs.RoomLemmas.{header-length, length-next}
use Rattle.patch_gen.proofs.room.headers_length.Goals as goal

pub loop-done-preserved : goal.loop-done-preserved
loop-done-preserved c =
    let n = c.loop-done.done in
    record {
      exact = length-next header_lines n c.loop-done.total (20 + 2 * c.digit_count.result) _ c.loop-done.invariant.exact (omega (arith, header-length (n + 1), c.digit_count.ensures.count)) refl;
      small = omega (arith, c.loop-done.invariant.small, c.digit_count.ensures.few);
    }
