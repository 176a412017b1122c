-- The canonical text of a hunk.
use Rattle.std.specs.Prelude.{◌≡◌, ℕ, Bool, true, false, not, ◌&&◌, List, [], ◌∷◌, ◌++◌, length, replicate, if◌then◌else◌}
use Rattle.std.specs.List.{list_any}
use Rattle.line_list.specs.Lines.{lines}
use Rattle.hunk_core.specs.declared.Mark.{Mark}
use Rattle.hunk_core.specs.declared.Mark.TheVariants.{Keep, Drop, Add}
use Rattle.hunk_core.specs.declared.Side.{Side}
use Rattle.hunk_core.specs.declared.Side.TheVariants.{Forward, Reversed}
use Rattle.hunk_core.specs.Sides.{is_on_side}
use Rattle.hunk_core.specs.PlainHunk.{Marked, PlainHunk, old_lines, new_lines}
use Rattle.hunk_core.specs.Turned.{is_keep, is_drop, other_side}
use Rattle.hunk_core.specs.LineTests.{ends_line}
use Rattle.hunk_core.specs.Writing.{no_newline}
use Rattle.hunk_core.specs.Spans.{span_text}
use Rattle.context_form.specs.Ranges.{before_range, behind_range}
use Rattle.context_form.specs.Grammar.{mark_byte, SpellsHunk, IsPiece}

-- 15 asterisks
abbrev pub stars_text : List ℕ
stars_text = replicate 15 42 ++ 10 ∷ []

-- the range line of a part
abbrev pub range_line_text : Side → ℕ → ℕ → List ℕ
range_line_text side start count = before_range side ++ (span_text start count ++ ((32 ∷ behind_range side) ++ 10 ∷ []))

-- a line behind its mark, '! ' for one of changed lines
abbrev pub line_text : Bool → Marked → List ℕ
line_text changed m = (mark_byte changed m.mark ∷ 32 ∷ []) ++ (m.line ++ (if ends_line m.line then [] else 10 ∷ no_newline))

-- the stretch up to the next kept line has a line that is on this side
unfoldable pub stretch_has : Side → List Marked → Bool
stretch_has side [] = false
stretch_has side (m ∷ body) = if is_keep m.mark then false else if is_on_side side m.mark then true else stretch_has side body

-- the stretch up to the next kept line has dropped lines and added ones
abbrev pub mixed : List Marked → Bool
mixed body = stretch_has Forward body && stretch_has Reversed body

-- the stretch that goes on behind a line, or begins there, has dropped lines and added ones
abbrev pub mixed_behind : Bool → Mark → List Marked → Bool
mixed_behind changed mark body = if is_keep mark then mixed body else changed

-- the lines of a part, where the stretch at the front has dropped lines and added ones, or not
unfoldable pub part_text : Side → Bool → List Marked → List ℕ
part_text side changed [] = []
part_text side changed (m ∷ body) = (if is_on_side side m.mark then line_text changed m else []) ++ part_text side (mixed_behind changed m.mark body) body

-- asterisks, the old range, the old part, the new range, the new part
abbrev pub canonical : PlainHunk → List ℕ
canonical h = (stars_text ++ range_line_text Forward h.old_start (length (old_lines h.body))) ++ (part_text Forward (mixed h.body) h.body ++ (range_line_text Reversed h.new_start (length (new_lines h.body)) ++ part_text Reversed (mixed h.body) h.body))

-- ---- a hunk as diff writes it

-- a line with this mark is on this side alone
abbrev pub is_changed : Side → Mark → Bool
is_changed side Keep = false
is_changed Forward Drop = true
is_changed Forward Add = false
is_changed Reversed Drop = false
is_changed Reversed Add = true

abbrev pub has_changed : Side → List Marked → Bool
has_changed side body = list_any (λ m. is_changed side m.mark) body

-- a part without changed lines is left out beside one that has some
abbrev pub is_left_out : Side → List Marked → Bool
is_left_out side body = not (has_changed side body) && has_changed (other_side side) body

abbrev pub half_text : Side → List Marked → List ℕ
half_text side body = if is_left_out side body then [] else part_text side (mixed body) body

-- asterisks with this text behind them, and the old range
abbrev pub opening_text : List ℕ → ℕ → ℕ → List ℕ
opening_text behind start count = replicate 15 42 ++ (behind ++ 10 ∷ range_line_text Forward start count)

-- what is written of a hunk, with this text behind its asterisks
abbrev pub shown : List ℕ → PlainHunk → List ℕ
shown behind h = opening_text behind h.old_start (length (old_lines h.body)) ++ (half_text Forward h.body ++ (range_line_text Reversed h.new_start (length (new_lines h.body)) ++ half_text Reversed h.body))

-- ---- a hunk that is read again

-- the dropped lines, and then the added ones, of each stretch, behind added lines that wait
unfoldable pub drops_before : List Marked → List Marked → List Marked
drops_before waiting [] = waiting
drops_before waiting (m ∷ body) = if is_keep m.mark then waiting ++ m ∷ drops_before [] body
    else if is_drop m.mark then m ∷ drops_before waiting body
    else drops_before (waiting ++ m ∷ []) body

-- a hunk with its dropped lines before its added ones in each stretch
abbrev pub in_order : PlainHunk → PlainHunk
in_order h = record { old_start = h.old_start; new_start = h.new_start; body = drops_before [] h.body }

-- what was written spells the hunk before this rest, and whatever hunks the whole spells begin with it
pub record SpellsFirst (h : PlainHunk) (written rest : List ℕ) : Type 0 where
  pub own : List (List ℕ)
  pub parts : lines (written ++ rest) ≡ own ++ lines rest
  pub spelled : SpellsHunk 0 own (lines rest) h
  pub first : (number next : ℕ) (hs : List PlainHunk) (behind : List (List ℕ)) → IsPiece number (lines (written ++ rest)) hs next behind → (others : List PlainHunk) × (hs ≡ h ∷ others)
