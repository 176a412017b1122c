-- Ranges of numbers, as a text writes them (manual page of `filterdiff`).
use Rattle.std.specs.Prelude.{ℕ, ◌-◌, ◌^◌, List, [], ◌∷◌, length, nat_le, nat_lt, ◌==◌, Bool, true, false, if◌then◌else◌, Option, None, Some, option_map, option_and_then}
use Rattle.std.specs.List.{slice_split, position_or_len, before_first, after_first}
use Rattle.std.specs.Option.{option_map_or}
use Rattle.clap.specs.Lexer.{strip_byte}
use Rattle.patch_options.specs.Forms.{is_empty, number_of}
use Rattle.cli_tool_words.specs.PlainJobs.{PlainItems, PlainRanges}

-- an end of a range, which has a value where nothing is written
abbrev pub end_or : ℕ → List ℕ → Option ℕ
end_or value text = if is_empty text then Some value else number_of text

-- two ends in their order
abbrev pub ordered : ℕ → ℕ → Option (ℕ × ℕ)
ordered first last = if nat_le first last then Some (first, last) else None

-- two ends around a hyphen
unfoldable pub between : List ℕ → List ℕ → Option (ℕ × ℕ)
between front back = option_and_then (λ first. option_and_then (ordered first) (end_or (2 ^ 32 - 1) back)) (end_or 0 front)

-- a number alone
abbrev pub single : List ℕ → Option (ℕ × ℕ)
single text = option_map (λ n. (n, n)) (number_of text)

-- the first and the last number of an item: `N`, or what the first hyphen parts as `N-M`, `N-`, `-M` or `-`
unfoldable pub item_of : List ℕ → Option (ℕ × ℕ)
item_of text = if nat_lt (position_or_len (λ b. b == 45) text) (length text)
    then between (before_first (λ b. b == 45) text) (after_first (λ b. b == 45) text)
    else single text

abbrev pub items_by : List (List ℕ) → Option PlainItems
items_by [] = Some []
items_by (text ∷ texts) = option_and_then (λ item. option_map (λ items. item ∷ items) (items_by texts)) (item_of text)

-- the items that a text writes, with commas between them
unfoldable pub items_of : List ℕ → Option PlainItems
items_of text = items_by (slice_split (λ b. b == 44) text)

-- the numbers of these items, or all other ones
abbrev pub listed : Bool → List ℕ → Option PlainRanges
listed others text = option_map (λ items. record { items = items; others = others }) (items_of text)

-- the ranges that a text writes; behind an `x` all numbers but those of its items
unfoldable pub ranges_of : List ℕ → Option PlainRanges
ranges_of text = option_map_or (listed true) (strip_byte 120 text) (listed false text)
