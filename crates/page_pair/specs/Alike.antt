-- Whether a record is a line that is sought.
use Rattle.std.specs.Prelude.{◌≡◌, ◌≢◌, ℕ, List, Bool, true, false, ◌+◌}
use Rattle.page_pair.specs.Records.{line_in}
use Rattle.line_store.specs.Store.{NoneAlike, line_at}

-- whether the record at a place is this line
abbrev pub TellsAlike : List ℕ → List ℕ → ℕ → Bool → Type 0
TellsAlike page line at true = line_in page at ≡ line
TellsAlike page line at false = line_in page at ≢ line

-- from a line on, the first one that is alike is another one, or none up to that one
abbrev pub FindsFirst : List (List ℕ) → List ℕ → ℕ → ℕ → Bool → Type 0
FindsFirst lines line from k true = (line_at lines k ≡ line) × NoneAlike lines line from k
FindsFirst lines line from k false = NoneAlike lines line from (k + 1)
