-- Which file patches and which numbers are meant.
use Rattle.std.specs.Prelude.{ℕ, Bool, true, false, not, nat_le, ◌&&◌, ◌||◌, List, length, Option, None, Some}
use Rattle.std.specs.List.{list_any, range_with_len, zip}
use Rattle.glob_match.specs.Matching.{does_match}
use Rattle.read_file_patch.specs.Stripped.{shortened}
use Rattle.cli_tool_words.specs.PlainJobs.{PlainItems, PlainSelect, PlainRanges}

-- some of the patterns matches the whole name
abbrev pub matches_any : List (List ℕ) → List ℕ → Bool
matches_any patterns name = list_any (λ p. does_match p name) patterns

-- the name, once it is stripped, has no excluded pattern, and an included one where only these are meant
abbrev pub is_selected : PlainSelect → List ℕ → Bool
is_selected s name = not (matches_any s.exclude (shortened s.strip name)) && (not s.only_included || matches_any s.include (shortened s.strip name))

-- the number is in one of the items
abbrev pub is_in : PlainItems → ℕ → Bool
is_in items n = list_any (λ r. nat_le r.0 n && nat_le n r.1) items

-- the numbers of the items are meant, or all others
abbrev pub by_others : Bool → Bool → Bool
by_others true is = not is
by_others false is = is

-- without ranges each number is meant
abbrev pub is_meant : Option PlainRanges → ℕ → Bool
is_meant None n = true
is_meant (Some ranges) n = by_others ranges.others (is_in ranges.items n)

-- the same of numbers of which one is to be in an item or, where all others are meant, none
abbrev pub is_one_meant : Option PlainRanges → List ℕ → Bool
is_one_meant None ns = true
is_one_meant (Some ranges) ns = by_others ranges.others (list_any (is_in ranges.items) ns)

-- the elements of a list, each behind its number, from 1
abbrev pub numbered : {A : Type 0} → List A → List (ℕ × A)
numbered xs = zip (range_with_len 1 (length xs)) xs
