use Rattle.std.proofs.Common.{take, All}
use Rattle.patch_set.specs.Room.{AreUnmarked, HasRoom}
use Rattle.patch_set.proofs.marks.room_for.Given as goal

abbrev pub invariant-loop-patch : goal.invariant-loop-patch
invariant-loop-patch l = record {
  unmarked : AreUnmarked l.names;
  room : All (λ p. All (HasRoom l.names) p.targets.items) (take l.patch-index l.patches);
}
