use Rattle.std.proofs.Common.{List, subst}
use Rattle.mem_world.specs.declared.log.Slot.{Slot}
use Rattle.mem_world.specs.Disk.{disk}
use Rattle.mem_world.specs.Log.{notes, HasLast}
use Rattle.mem_world.proofs.Numbers.{last_there}
use Rattle.mem_world.proofs.store.Store.last_number.Goals as goal

pub returns : goal.returns
returns c =
    last_there c.args.self.now.files.items (disk (notes c.args.self.now.log.items)).live c.args.name.now c.last_number.result c.args.self.now.matches
    (subst (λ (ss : List Slot). HasLast ss c.args.name.now c.last_number.result) c.deref.ensures.value c.last_number.ensures)
