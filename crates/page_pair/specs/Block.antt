-- Where the parts of a block lie, and the right to free it.
use Rattle.std.specs.Prelude.{ℕ, ◌+◌}
use Rattle.std.specs.Borrow.{Fml, u8}
use Rattle.std.specs.Ptr.{Ptr, block_ptr, null_ptr}
use Rattle.std.specs.Allocator.{array_of}
use Rattle.std.specs.Global.{Global}
use Rattle.std.specs.contracts.impls.GlobalAllocator.TheImpl.{ghosts}

-- the place that many bytes behind another
abbrev pub ptr_behind : ℕ → Ptr → Ptr
ptr_behind n (block_ptr block o) = block_ptr block (n + o)
ptr_behind n null_ptr = null_ptr

-- the right to give the block of that many bytes back to the allocator
abbrev pub right_to_free : Global → ℕ → Ptr → Fml
right_to_free alloc count at = ghosts.dealloc_token alloc (array_of u8 count) at
