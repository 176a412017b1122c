-- What came of the hunks of a file, by their verdicts.
use Rattle.std.specs.Prelude.{◌≡◌, ◌≤◌, ◌^◌, ℕ, List, take, drop, length, Bool, true, false, not, ◌==◌, ◌&&◌}
use Rattle.std.specs.List.{All, sum_by}
use Rattle.hunk_core.specs.declared.Hunk.{Hunk}
use Rattle.hunk_core.specs.declared.Verdict.{Verdict}
use Rattle.hunk_core.specs.declared.Verdict.TheVariants.{Untried, Ignored, Nowhere, At}
pub use Rattle.read_file_patch.specs.Absent.{is_zero}

abbrev pub is_placed : Verdict → Bool
is_placed Untried = false
is_placed Ignored = false
is_placed Nowhere = false
is_placed (At line fuzz offset) = true

abbrev pub is_failed : Verdict → Bool
is_failed Untried = false
is_failed Ignored = false
is_failed Nowhere = true
is_failed (At line fuzz offset) = false

-- the hunk failed, or was placed with fuzz or at an offset other than 0
abbrev pub is_inexact : Verdict → Bool
is_inexact Untried = false
is_inexact Ignored = false
is_inexact Nowhere = true
is_inexact (At line fuzz offset) = not ((fuzz == 0) && is_zero offset)

-- the hunk was tried, and its line, where it was placed, is one of a store's lines or near them
abbrev pub IsTried : Verdict → Type 0
IsTried Untried = ⊥
IsTried Ignored = ⊥
IsTried Nowhere = Unit {0}
IsTried (At line fuzz offset) = line ≤ 2 ^ 41

-- a first part of the rows was filled, the others hold what they held
pub record FillsFirst (old new : List Verdict) : Type 0 where
  pub count : ℕ
  pub tried : All IsTried (take count new)
  pub others : drop count new ≡ drop count old

-- the lines of all bodies
abbrev pub body_lines : List Hunk → ℕ
body_lines hunks = sum_by (λ h. length h.body.items) hunks
