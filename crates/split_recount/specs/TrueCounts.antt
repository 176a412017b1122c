-- What a text with true counts is, in terms of its lines and of the unified grammar alone.
use Rattle.std.specs.Prelude.{◌≡◌, ℕ, Bool, true, not, List, [], ◌∷◌}
use Rattle.hunk_core.specs.PlainHunk.{PlainHunk}
use Rattle.unified_form.specs.Ranges.{is_opening}
use Rattle.unified_form.specs.Grammar.{ranges_of, SpellsRanges, SpellsBody}
use Rattle.split_recount.specs.Bodies.{body_of}

-- a line that isn't a range line
abbrev pub is_other : List ℕ → Bool
is_other line = not (is_opening line)

-- a hunk whose lines these are, and whose starts and numbers of lines the range line states
abbrev pub Spells : List ℕ → List (List ℕ) → Type 0
Spells line body = (h : PlainHunk) × SpellsRanges line (ranges_of h) × SpellsBody body h.body

-- each range line states the numbers of lines of the body behind it
abbrev pub AreTrue : List (List ℕ) → Type 0
AreTrue [] = Unit {0}
AreTrue (line ∷ rest) = (is_opening line ≡ true → Spells line (body_of rest)) × AreTrue rest
