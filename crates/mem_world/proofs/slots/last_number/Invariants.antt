use Rattle.mem_world.proofs.Numbers.{LastSoFar}
use Rattle.mem_world.proofs.slots.last_number.Given as goal

abbrev pub invariant-loop-slot : goal.invariant-loop-slot
invariant-loop-slot l = LastSoFar l.files l.slot-index l.name l.last
