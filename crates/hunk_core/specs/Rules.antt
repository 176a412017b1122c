-- The rules that a hunk of any form keeps.
use Rattle.std.specs.Prelude.{◌≡◌, ℕ, ◌+◌, ◌≢◌, Bool, false, not, nat_lt, ◌==◌, ◌&&◌, ◌||◌, List, [], ◌∷◌, length, ◌-◌, take, Option, find}
use Rattle.std.specs.List.{AllByRecursion}
use Rattle.hunk_core.specs.declared.Hunk.{Hunk}
use Rattle.hunk_core.specs.declared.check.BadHunk.{BadHunk}
use Rattle.hunk_core.specs.declared.check.BadHunk.TheVariants.{NoLines, Start, Sum, InnerEnd}
use Rattle.hunk_core.specs.PlainHunk.{Marked, PlainHunk, old_lines, new_lines}
use Rattle.hunk_core.specs.LineTests.{ends_line}

-- a side with lines that is stated to start at 0
abbrev pub starts_at_zero : ℕ → List (List ℕ) → Bool
starts_at_zero start side = start == 0 && not (length side == 0)

-- the start and the count of a side come above the greatest number
abbrev pub runs_over : ℕ → List (List ℕ) → Bool
runs_over start side = nat_lt 4294967295 (start + length side)

-- a line that isn't the last of its side has no line feed at its end
abbrev pub lacks_inner_end : List (List ℕ) → Bool
lacks_inner_end [] = false
lacks_inner_end (line ∷ []) = false
lacks_inner_end (line ∷ next ∷ more) = not (ends_line line) || lacks_inner_end (next ∷ more)

-- whether a hunk breaks a rule
abbrev pub breaks : PlainHunk → BadHunk → Bool
breaks h NoLines = length h.body == 0
breaks h Start = starts_at_zero h.old_start (old_lines h.body) || starts_at_zero h.new_start (new_lines h.body)
breaks h Sum = runs_over h.old_start (old_lines h.body) || runs_over h.new_start (new_lines h.body)
breaks h InnerEnd = lacks_inner_end (old_lines h.body) || lacks_inner_end (new_lines h.body)

-- the first rule, in this order, that a hunk breaks
abbrev pub first_broken : PlainHunk → Option BadHunk
first_broken h = find (breaks h) (NoLines ∷ Start ∷ Sum ∷ InnerEnd ∷ [])

-- a line feed at most as its last byte
abbrev pub HasNoInnerFeed : Marked → Type 0
HasNoInnerFeed m = AllByRecursion (λ b. b ≢ 10) (take (length m.line - 1) m.line)

-- two hunks with the same starts and the same body
pub record IsSameHunk (a b : Hunk) : Type 0 where
  pub old_start : a.old_start ≡ b.old_start
  pub new_start : a.new_start ≡ b.new_start
  pub body : a.body.items ≡ b.body.items

-- a start and its count come above the greatest number
abbrev pub is_too_large : ℕ → ℕ → Bool
is_too_large start count = nat_lt 4294967295 (start + count)
