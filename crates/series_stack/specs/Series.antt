-- The patches of a stack, one name per line.
use Rattle.std.specs.Prelude.{ℕ, List, [], ◌∷◌, map, filter, length, Bool, true, not, nat_le, ◌&&◌, ◌==◌, if◌then◌else◌, is_none, Option, None, Some}
use Rattle.std.specs.List.{slice_split, list_all}
use Rattle.outside.specs.Names.{broken_rule, normal_form}

abbrev pub is_feed : ℕ → Bool
is_feed b = b == 10

-- an empty line, or one that begins with `#`
abbrev pub is_skipped : List ℕ → Bool
is_skipped [] = true
is_skipped (b ∷ bs) = b == 35

-- the lines that aren't skipped, without their line feeds
abbrev pub named_lines : List (List ℕ) → List (List ℕ)
named_lines parts = filter (λ line. not (is_skipped line)) parts

-- the text breaks no rule of names
abbrev pub is_lawful : List ℕ → Bool
is_lawful text = is_none (broken_rule text)

-- the names that these lines write, where each is lawful and there are at most 9,999
abbrev pub names_written : List (List ℕ) → Option (List (List ℕ))
names_written named = if list_all is_lawful named && nat_le (length named) 9999 then Some (map normal_form named) else None

-- the names of a series, or none where the text is no series
unfoldable pub series_of : List ℕ → Option (List (List ℕ))
series_of text = names_written (named_lines (slice_split is_feed text))
