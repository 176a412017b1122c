-- A hunk taken from one of its sides, and what its place is counted from.
use Rattle.std.specs.Prelude.{ℕ, ◌+◌, ◌<◌, ◌≤◌, ◌^◌, ◌==◌, if◌then◌else◌, Bool, true, false, List, length, map, reverse, All}
use Rattle.std.specs.List.{prefix_len}
use Rattle.line_list.specs.declared.Span.{Span}
use Rattle.hunk_core.specs.declared.Mark.{Mark}
use Rattle.hunk_core.specs.declared.Mark.TheVariants.{Keep, Drop, Add}
use Rattle.hunk_core.specs.declared.Side.{Side}
use Rattle.hunk_core.specs.declared.Side.TheVariants.{Forward, Reversed}
use Rattle.hunk_core.specs.declared.Hunk.{Hunk}
use Rattle.hunk_core.specs.PlainHunk.{Marked, PlainHunk, old_lines}

-- what was dropped is added, and what was added dropped
abbrev pub swapped_mark : Mark → Mark
swapped_mark Keep = Keep
swapped_mark Drop = Add
swapped_mark Add = Drop

-- a line with the other mark
abbrev pub swapped_line : Marked → Marked
swapped_line m = record { mark = swapped_mark m.mark; line = m.line }

-- the change undone
abbrev pub swapped : PlainHunk → PlainHunk
swapped c = record { old_start = c.new_start; new_start = c.old_start; body = map swapped_line c.body }

-- a change as it is taken from a side
abbrev pub turned : Side → PlainHunk → PlainHunk
turned Forward c = c
turned Reversed c = swapped c

-- a line of a hunk as it is taken from a side
abbrev pub taken_mark : Side → Mark → Mark
taken_mark Forward mark = mark
taken_mark Reversed mark = swapped_mark mark

-- a line of a hunk as it is taken from a side, with its mark there
abbrev pub taken_line : Side → Marked → Marked
taken_line side m = record { mark = taken_mark side m.mark; line = m.line }

-- a hunk taken from a side, with these starts
abbrev pub taken : Side → ℕ → ℕ → PlainHunk → PlainHunk
taken side old_start new_start h = record { old_start = old_start; new_start = new_start; body = (turned side h).body }

-- the side that is taken as new
abbrev pub other_side : Side → Side
other_side Forward = Reversed
other_side Reversed = Forward

-- context
abbrev pub is_keep : Mark → Bool
is_keep Keep = true
is_keep Drop = false
is_keep Add = false

-- a line of the old side alone
abbrev pub is_drop : Mark → Bool
is_drop Keep = false
is_drop Drop = true
is_drop Add = false

-- a line of the new side alone
abbrev pub is_add : Mark → Bool
is_add Keep = false
is_add Drop = false
is_add Add = true

-- how many lines of context a body begins with, and ends with
abbrev pub leading : List Marked → ℕ
leading ms = prefix_len (λ m. is_keep m.mark) ms

-- how many lines of context a body ends with
abbrev pub trailing : List Marked → ℕ
trailing ms = prefix_len (λ m. is_keep m.mark) (reverse ms)

-- where the old lines stand as stated; an empty range stands behind its start
abbrev pub base : PlainHunk → ℕ
base c = if length (old_lines c.body) == 0 then c.old_start + 1 else c.old_start

-- a span of the text
abbrev pub LiesIn : List ℕ → Span → Type 0
LiesIn text s = (s.start ≤ s.end) × (s.end ≤ length text)

-- the spans of a hunk lie in the text, and its lines can be counted
pub record IsLawful (text : List ℕ) (h : Hunk) : Type 0 where
  pub few : length h.body.items < 2 ^ 32
  pub within : All (λ l. LiesIn text l.span) h.body.items
