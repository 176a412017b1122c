-- Which bytes of a part of a text are line feeds.
use Rattle.std.specs.Prelude.{◌≡◌, ◌≢◌, ◌↔◌, ℕ, ◌+◌, ◌*◌, ◌<◌, ◌≤◌, List, length, slice_index}
use Rattle.std.specs.Int.{bit_at}
use Rattle.line_list.specs.declared.feeds.LineFeeds.{LineFeeds}

-- no line feed stands from `at` up to `end`
abbrev pub NoFeed : List ℕ → ℕ → ℕ → Type 0
NoFeed text at end = (j : ℕ) → at ≤ j → j < end → slice_index text j ≢ 10

-- the bits of a word tell it of the 64 bytes from a place on
pub record AreMarks (text : List ℕ) (at marks : ℕ) : Type 0 where
  pub within : at + 64 ≤ length text
  pub each : (k : ℕ) → k < 64 → (bit_at marks k ≡ 1) ↔ (slice_index text (at + k) ≡ 10)

-- so does each word of some, one behind the other
pub record AreFeeds (text : List ℕ) (f : LineFeeds) : Type 0 where
  pub few : f.count ≤ 8
  pub each : (w : ℕ) → w < f.count → AreMarks text (f.at + 64 * w) (slice_index f.marks w)
