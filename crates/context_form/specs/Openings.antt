-- Which lines open a hunk.
use Rattle.std.specs.Prelude.{ℕ, Bool, false, ◌&&◌, List, [], ◌∷◌, Option, None, Some, is_some, replicate}
use Rattle.hunk_core.specs.LineTests.{after}
use Rattle.num_text.specs.Numbers.{number_at}
use Rattle.context_form.specs.Ranges.{unblanked}

-- 15 asterisks
abbrev pub is_stars : List ℕ → Bool
is_stars line = is_some (after (replicate 15 42) line)

-- a number comes first, with blanks in front of it or none
abbrev pub has_number : Option (List ℕ) → Bool
has_number None = false
has_number (Some rest) = is_some (number_at (unblanked rest))

-- '*** ', blanks if there are any, and a digit
abbrev pub opens_old : List ℕ → Bool
opens_old line = has_number (after (42 ∷ 42 ∷ 42 ∷ 32 ∷ []) line)

-- the range of an old part comes first
abbrev pub begins_old : List (List ℕ) → Bool
begins_old [] = false
begins_old (line ∷ rest) = opens_old line

-- a hunk opens these lines: asterisks, and the range of an old part behind them
abbrev pub begins_hunk : List (List ℕ) → Bool
begins_hunk [] = false
begins_hunk (line ∷ rest) = is_stars line && begins_old rest
