-- The grammar of the unified form, apart from any reading: which lines spell which hunks.
use Rattle.std.specs.Prelude.{◌≡◌, ℕ, ◌+◌, ◌<◌, ◌≤◌, true, ◌⊎◌, List, [], ◌∷◌, ◌++◌}
use Rattle.hunk_core.specs.declared.Mark.{Mark}
use Rattle.hunk_core.specs.declared.Mark.TheVariants.{Keep, Drop, Add}
use Rattle.hunk_core.specs.PlainHunk.{Marked, PlainHunk}
use Rattle.unified_form.specs.declared.body.Left.{Left}
use Rattle.unified_form.specs.declared.range.Ranges.{Ranges}
use Rattle.num_text.specs.Numbers.{IsNumeral}
use Rattle.unified_form.specs.Ranges.{Fits}
use Rattle.unified_form.specs.Bodies.{is_last_line}
use Rattle.hunk_core.specs.LineTests.{marked, unended, is_backslash}
use Rattle.hunk_core.specs.Following.{SpellsEach, IsPieceOf}
use Rattle.unified_form.specs.Hunks.{begins_hunk}

-- a space, a minus or a plus
abbrev pub mark_byte : Mark → ℕ
mark_byte Keep = 32
mark_byte Drop = 45
mark_byte Add = 43

-- nothing but its line feed, or a tab at the front: a line of context that lost its blank
abbrev pub LostBlank : List ℕ → Type 0
LostBlank [] = ⊥
LostBlank (b ∷ bytes) = (b ≡ 10) ⊎ (b ≡ 9)

-- a line shows a marked line: behind its mark, or as a whole, where it lost the blank of a kept line
abbrev pub Shows : List ℕ → Marked → Type 0
Shows line m = (line ≡ mark_byte m.mark ∷ m.line) ⊎ (LostBlank line × (m ≡ marked Keep line))

-- how many lines of a body are on each side
abbrev pub one_more : Mark → Left → Left
one_more Keep left = record { old = left.old + 1; new = left.new + 1 }
one_more Drop left = record { old = left.old + 1; new = left.new }
one_more Add left = record { old = left.old; new = left.new + 1 }

-- how many lines of a body are on each side
abbrev pub counts_of : List Marked → Left
counts_of [] = record { old = 0; new = 0 }
counts_of (m ∷ body) = one_more m.mark (counts_of body)

-- the lines that a marked line takes, before this rest of the body: itself, and a backslash line where it has no line feed
abbrev pub SpellsLine : List (List ℕ) → Marked → List Marked → Type 0
SpellsLine [] m body = ⊥
SpellsLine (line ∷ []) m body = Shows line m
SpellsLine (line ∷ mark ∷ []) m body = (is_backslash mark ≡ true) × (is_last_line m.mark (counts_of body) ≡ true) × (full : Marked) × Shows line full × (m ≡ unended full)
SpellsLine (line ∷ mark ∷ other ∷ more) m body = ⊥

-- these lines are this body
abbrev pub SpellsBody : List (List ℕ) → List Marked → Type 0
SpellsBody piece [] = piece ≡ []
SpellsBody piece (m ∷ body) = (own : List (List ℕ)) × (rest : List (List ℕ)) × (piece ≡ own ++ rest) × SpellsLine own m body × SpellsBody rest body

-- a range line that states these starts, and the number of lines on each side of the body
abbrev pub ranges_of : PlainHunk → Ranges
ranges_of h = record { old_start = h.old_start; old_count = (counts_of h.body).old; new_start = h.new_start; new_count = (counts_of h.body).new }

-- a range: a start, or a start, a comma and a count; without a count it is 1
abbrev pub SpellsRange : List ℕ → ℕ → ℕ → Type 0
SpellsRange text start count = (ds : List ℕ) × IsNumeral ds start
    × (((count ≡ 1) × (text ≡ ds)) ⊎ ((cs : List ℕ) × IsNumeral cs count × (text ≡ ds ++ 44 ∷ cs)))

-- '@@ -', a range, ' +', a range, ' @@' and any rest
pub record SpellsRanges (line : List ℕ) (r : Ranges) : Type 0 where
  pub old : List ℕ
  pub new : List ℕ
  pub rest : List ℕ
  pub parts : line ≡ (64 ∷ 64 ∷ 32 ∷ 45 ∷ []) ++ (old ++ ((32 ∷ 43 ∷ []) ++ (new ++ ((32 ∷ 64 ∷ 64 ∷ []) ++ rest))))
  pub old_range : SpellsRange old r.old_start r.old_count
  pub new_range : SpellsRange new r.new_start r.new_count

-- no range of lines starts at 0, no number is too large, some line is counted, and the old start is not below the least
pub record AreFair (least : ℕ) (r : Ranges) : Type 0 where
  pub old_begins : r.old_start ≡ 0 → r.old_count ≡ 0
  pub new_begins : r.new_start ≡ 0 → r.new_count ≡ 0
  pub fits : Fits r
  pub counts : 0 < r.old_count + r.new_count
  pub order : least ≤ r.old_start

-- these lines are this hunk, behind one that starts at least
abbrev pub SpellsHunk : ℕ → List (List ℕ) → PlainHunk → Type 0
SpellsHunk least [] h = ⊥
SpellsHunk least (line ∷ rest) h = SpellsRanges line (ranges_of h) × AreFair least (ranges_of h) × SpellsBody rest h.body

-- these lines are these hunks, the first behind one that starts at least
abbrev pub SpellsHunks : ℕ → List (List ℕ) → List PlainHunk → Type 0
SpellsHunks least piece hs = SpellsEach (λ start own behind h. SpellsHunk start own h) least piece [] hs

-- the lines ahead are these hunks, and then this rest, whose first line has this number: neither a hunk nor a backslash line
abbrev pub IsPiece : ℕ → List (List ℕ) → List PlainHunk → ℕ → List (List ℕ) → Type 0
IsPiece number lines hs next rest = IsPieceOf begins_hunk (λ own behind hs. SpellsHunks 0 own hs) number lines hs next rest
