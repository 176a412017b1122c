use Rattle.std.proofs.Common.{◌+◌, ◌*◌, ap, sym, ◌∙◌, refl, arith}
use Rattle.patch_gen.specs.Patches.{hunk_text}
use Rattle.patch_gen.proofs.RoomLemmas.{hunk-length, length-next}
use Rattle.patch_gen.proofs.room.hunks_length.Goals as goal

pub loop-done-preserved : goal.loop-done-preserved
loop-done-preserved c =
    let n = c.loop-done.done in
    record {
      exact = λ line twelve. length-next (hunk_text line) n c.loop-done.total (118 + 2 * c.digit_count.result) _ (c.loop-done.invariant.exact line twelve) (hunk-length line (n + 1) twelve ∙ ap (λ k. 118 + 2 * k) (sym c.digit_count.ensures.count)) refl;
      small = omega (arith, c.loop-done.invariant.small, c.digit_count.ensures.few);
    }
