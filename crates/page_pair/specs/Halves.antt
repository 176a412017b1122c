-- Two pages that are the halves of one block.
use Rattle.std.specs.Prelude.{◌≡◌, ◌+◌, ℕ, ◌<◌, ◌^◌}
use Rattle.std.specs.Global.{Global}
use Rattle.std.specs.Ptr.{Ptr}
use Rattle.page_pair.specs.Block.{ptr_behind}
use Rattle.page_pair.specs.declared.block.Page.{Page}
use Rattle.page_pair.specs.declared.block.Room.{Room}
use Rattle.page_pair.specs.declared.block.Title.{Title}

-- the right to give that block back to that allocator
pub record IsTitle (title : Title) (heap : Global) (size : ℕ) (start : Ptr) : Type 0 where
  pub alloc : title.alloc ≡ heap
  pub count : title.count ≡ size
  pub at : title.at ≡ start

-- a block of that size, with the right to give it back
pub record IsTaken (alloc : Global) (count : ℕ) (room : Room) (title : Title) : Type 0 where
  pub counted : room.count ≡ count
  pub titled : IsTitle title alloc count room.at

-- the pages lie side by side and take that many bytes
pub record Fills (first : Page) (second : Page) (count : ℕ) : Type 0 where
  pub whole : count ≡ first.count + second.count
  pub small : count < 2 ^ 63
  pub beside : second.at ≡ ptr_behind first.count first.at

pub record AreHalves (first : Page) (second : Page) (title : Title) (alloc : Global) : Type 0 where
  pub alike : second.count ≡ first.count
  pub beside : second.at ≡ ptr_behind first.count first.at
  pub titled : IsTitle title alloc (first.count + first.count) first.at
