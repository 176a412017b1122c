use Rattle.std.proofs.Common.{◌≡◌, take}
use Rattle.patch_set.specs.SetView.{hunks_in}
use Rattle.patch_set.proofs.set.hunks_in.Given as goal

abbrev pub invariant-loop-patch : goal.invariant-loop-patch
invariant-loop-patch l = l.count ≡ hunks_in (take l.patch-index l.patches)
