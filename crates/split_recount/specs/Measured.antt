-- What the code measures of a body.
use Rattle.std.specs.Prelude.{◌≡◌, ℕ, ◌+◌, ◌≤◌, List, [], ◌∷◌, length, drop, slice_range, Option, None, Some}
use Rattle.std.specs.List.{list_any}
use Rattle.line_list.specs.Lines.{lines, IsLineAt}
use Rattle.hunk_core.specs.declared.Mark.{Mark}
use Rattle.hunk_core.specs.LineTests.{is_backslash}
use Rattle.unified_form.specs.declared.body.Left.{Left}
use Rattle.unified_form.specs.Grammar.{one_more, counts_of}
use Rattle.split_recount.specs.declared.body.Sides.{Sides}
use Rattle.split_recount.specs.declared.body.Body.{Body}
use Rattle.split_recount.specs.Bodies.{body_of, marked_lines}
use Rattle.split_recount.specs.Recounted.{bytes_of}

-- how much stands on each side
abbrev pub left_of : Sides → Left
left_of sides = record { old = sides.old; new = sides.new }

-- one line more, which may have a mark
abbrev pub with_mark : Option Mark → Left → Left
with_mark None left = left
with_mark (Some mark) left = one_more mark left

-- the lines ahead of a place
abbrev pub ahead_at : List ℕ → ℕ → List (List ℕ)
ahead_at text at = lines (drop at text)

-- the body that begins at a place
abbrev pub body_at : List ℕ → ℕ → List (List ℕ)
body_at text at = body_of (ahead_at text at)

-- what stands behind the body that these lines begin with
abbrev pub behind_body : List (List ℕ) → List (List ℕ)
behind_body ls = drop (length (body_of ls)) ls

-- a line of a body stands at a place, or the body ends there
abbrev pub GoesOn : List ℕ → ℕ → Option ℕ → Type 0
GoesOn text at None = body_at text at ≡ []
GoesOn text at (Some end) = IsLineAt text at end × (body_at text at ≡ slice_range text at end ∷ body_at text end)

-- no more lines than bytes were counted, and no more on a side than in all
pub record IsFew (at : ℕ) (b : Body) : Type 0 where
  pub lines : at + b.lines ≤ b.end
  pub old : b.sides.old ≤ b.lines
  pub new : b.sides.new ≤ b.lines

-- the body that begins at a place
pub record IsMeasured (text : List ℕ) (at : ℕ) (b : Body) : Type 0 where
  pub high : b.end ≤ length text
  pub few : IsFew at b
  pub lines : length (body_at text at) ≡ b.lines
  pub bytes : bytes_of (body_at text at) ≡ slice_range text at b.end
  pub rest : behind_body (ahead_at text at) ≡ ahead_at text b.end
  pub sides : counts_of (marked_lines (body_at text at)) ≡ left_of b.sides
  pub backslash : list_any is_backslash (body_at text at) ≡ b.has_backslash
