use Rattle.std.proofs.Common.{refl, sym}
use Rattle.mem_world.proofs.Places.{same_from}
use Rattle.mem_world.proofs.slots.is_same.Goals as goal

pub returns : goal.returns
returns c = sym (same_from c.args.one.now c.args.other.now _ _ c.eq.result c.eq.result c.text.ensures.text c.text-2.ensures.text c.eq.ensures refl)
