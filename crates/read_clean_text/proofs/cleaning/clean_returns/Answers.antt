use Rattle.std.proofs.Common.{length, ap, arith}
use Rattle.patch_set.proofs.Completing.{completed-length}
use Rattle.read_clean_text.proofs.cleaning.clean_returns.Goals as goal

pub read_patches-requires : goal.read_patches-requires
read_patches-requires c = omega (arith, completed-length c.in_ok-bare.bare.items, ap length c.deref.ensures.value, ap length c.in_ok-whole.ensures.whole, c.in_ok-bare.ensures.length, c.requires)
