use Rattle.mem_world.proofs.Places.{NoneBelow}
use Rattle.outside.specs.Names.{directory_text}
use Rattle.mem_world.proofs.slots.any_below.Given as goal

abbrev pub invariant-loop-slot : goal.invariant-loop-slot
invariant-loop-slot l = NoneBelow l.files l.slot-index (directory_text l.parts l.name)
