use Rattle.std.proofs.Common.{take, All}
use Rattle.patch_set.specs.Room.{GivesRoom, HasRoom}
use Rattle.patch_set.proofs.marks.add_targets.Given as goal

abbrev pub invariant-loop-target : goal.invariant-loop-target
invariant-loop-target l = record {
  gives : GivesRoom l.fn.names l.names;
  room : All (HasRoom l.names) (take l.target-index l.targets);
}
