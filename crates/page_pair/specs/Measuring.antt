-- The lines before a place of a file.
use Rattle.std.specs.Prelude.{◌<◌, ◌≤◌, ◌+◌, ℕ}
use Rattle.page_pair.specs.Room.{page_count}
use Rattle.page_pair.specs.declared.measuring.Measured.{Measured}

-- each line has a byte or more, and none more than is lawful; each page has a line
pub record IsSound (m : Measured) (most : ℕ) : Type 0 where
  pub counted : m.count ≤ m.at
  pub short : m.longest ≤ most
  pub paged : page_count m.room ≤ m.count
  pub filled : m.room.filled ≤ most + 4
  pub begun : 0 < m.count → 0 < m.room.filled
