-- Lines that were gathered.
use Rattle.std.specs.Prelude.{◌≡◌, ℕ, ◌+◌, ◌<◌, List, false}
use Rattle.line_list.specs.Join.{join, lacks_feed, ends_open}
use Rattle.hunk_apply.specs.Written.{lines_between}

-- these are the bytes of n lines from line q on, each with its line feed
pub record Gathers (lines : List (List ℕ)) (q n : ℕ) (bytes : List ℕ) : Type 0 where
  pub is : bytes ≡ join (lines_between lines q (q + n))
  pub shut : ends_open (lines_between lines q (q + n)) ≡ false
  pub end : 0 < n → lacks_feed bytes ≡ false
