-- Where the lines of a text end.
use Rattle.std.specs.Prelude.{◌≡◌, ℕ, ◌-◌, Some, ◌<◌, ◌≤◌, List, [], ◌∷◌, take, drop, length, slice_range, slice_index_or}
use Rattle.line_list.specs.Lines.{lines}
use Rattle.line_list.specs.Join.{join, lacks_feed, ends_open}
use Rattle.line_store.specs.Store.{line_at}
use Rattle.line_store.specs.Taking.{first_long}

-- where the line stands that has k lines before it
abbrev pub from_of : List ℕ → ℕ → ℕ
from_of ends k = slice_index_or (0 ∷ ends) k 0

abbrev pub to_of : List ℕ → ℕ → ℕ
to_of ends k = slice_index_or ends k 0

-- the line that has k lines before it goes from one place to another
pub record IsPiece (text : List ℕ) (from to k : ℕ) : Type 0 where
  pub low : from ≤ to
  pub high : to ≤ length text
  pub is : slice_index_or (lines text) k [] ≡ slice_range text from to

-- these are the places where the lines of the text end
pub record IsCut (text ends : List ℕ) : Type 0 where
  pub count : length ends ≡ length (lines text)
  pub few : length ends ≤ length text
  pub each : (k : ℕ) → k < length ends → IsPiece text (from_of ends k) (to_of ends k) k

-- n lines behind the first i go from one place to another
pub record IsRange (text : List ℕ) (i n from to : ℕ) : Type 0 where
  pub low : from ≤ to
  pub high : to ≤ length text
  pub is : slice_range text from to ≡ join (take n (drop i (lines text)))
  pub end : lacks_feed (slice_range text from to) ≡ ends_open (take n (drop i (lines text)))

-- the first line that is longer than the buffer admits
pub record IsFirstLong (size : ℕ) (ls : List (List ℕ)) (line count : ℕ) : Type 0 where
  pub is : first_long size ls ≡ Some line
  pub bytes : length (line_at ls line) ≡ count
  pub long : size - 4 < count
