-- The canonical text of a hunk.
use Rattle.std.specs.Prelude.{◌≡◌, ℕ, ◌==◌, List, [], ◌∷◌, ◌++◌, if◌then◌else◌}
use Rattle.std.specs.List.{flat_map}
use Rattle.line_list.specs.Lines.{lines}
use Rattle.num_text.specs.Numbers.{decimal}
use Rattle.hunk_core.specs.PlainHunk.{Marked, PlainHunk}
use Rattle.hunk_core.specs.LineTests.{ends_line}
use Rattle.hunk_core.specs.Writing.{no_newline}
use Rattle.unified_form.specs.Grammar.{mark_byte, counts_of, SpellsHunk, IsPiece}

-- a count of 1 is left off
abbrev pub range_text : ℕ → ℕ → List ℕ
range_text start count = if count == 1 then decimal start else decimal start ++ 44 ∷ decimal count

-- '@@ -', the old range, ' +', the new range, ' @@' and nothing behind it
abbrev pub range_line_text : ℕ → ℕ → ℕ → ℕ → List ℕ
range_line_text old_start old_count new_start new_count = (64 ∷ 64 ∷ 32 ∷ 45 ∷ []) ++ (range_text old_start old_count ++ ((32 ∷ 43 ∷ []) ++ (range_text new_start new_count ++ ((32 ∷ 64 ∷ 64 ∷ []) ++ 10 ∷ []))))

-- a line behind its mark
abbrev pub line_text : Marked → List ℕ
line_text m = mark_byte m.mark ∷ (m.line ++ (if ends_line m.line then [] else 10 ∷ no_newline))

-- the range line, and the lines of the body
abbrev pub canonical : PlainHunk → List ℕ
canonical h = range_line_text h.old_start (counts_of h.body).old h.new_start (counts_of h.body).new ++ flat_map line_text h.body

-- ---- a hunk with a text behind its ranges

-- '@@ -', the old range, ' +', the new range, ' @@'
abbrev pub ranges_text : ℕ → ℕ → ℕ → ℕ → List ℕ
ranges_text old_start old_count new_start new_count = (64 ∷ 64 ∷ 32 ∷ 45 ∷ []) ++ (range_text old_start old_count ++ ((32 ∷ 43 ∷ []) ++ (range_text new_start new_count ++ (32 ∷ 64 ∷ 64 ∷ []))))

-- what is written of a hunk, with this text behind its ranges
abbrev pub shown : List ℕ → PlainHunk → List ℕ
shown behind h = (ranges_text h.old_start (counts_of h.body).old h.new_start (counts_of h.body).new ++ (behind ++ 10 ∷ [])) ++ flat_map line_text h.body

-- ---- a hunk that is read again

-- what was written spells the hunk before this rest, and whatever hunks the whole spells begin with it
pub record SpellsFirst (h : PlainHunk) (written rest : List ℕ) : Type 0 where
  pub own : List (List ℕ)
  pub parts : lines (written ++ rest) ≡ own ++ lines rest
  pub spelled : SpellsHunk 0 own h
  pub first : (number next : ℕ) (hs : List PlainHunk) (behind : List (List ℕ)) → IsPiece number (lines (written ++ rest)) hs next behind → (others : List PlainHunk) × (hs ≡ h ∷ others)
