-- The files in memory with the calls that made them.
use Rattle.std.specs.Prelude.{◌≡◌, Result}
use Rattle.mem_world.specs.declared.store.Store.{Store}
use Rattle.mem_world.specs.Disk.{Event}
use Rattle.mem_world.specs.Log.{notes, Keeps}

-- the event is kept as one of the last device call
pub record Records {R E : Type 0} (old new : Store) (event : Event) (result : Result R E) : Type 0 where
  pub kept : Keeps (notes old.log.items) (notes new.log.items) old.calls event result
  pub calls : new.calls ≡ old.calls
