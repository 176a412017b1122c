-- The canonical text of a hunk.
use Rattle.std.specs.Prelude.{◌≡◌, ℕ, Bool, true, false, ◌==◌, List, [], ◌∷◌, ◌++◌, length, if◌then◌else◌}
use Rattle.std.specs.List.{flat_map}
use Rattle.line_list.specs.Lines.{lines}
use Rattle.hunk_core.specs.declared.HunkLine.{HunkLine}
use Rattle.hunk_core.specs.declared.Side.{Side}
use Rattle.hunk_core.specs.declared.Side.TheVariants.{Forward, Reversed}
use Rattle.hunk_core.specs.PlainHunk.{PlainHunk, old_lines, new_lines}
use Rattle.hunk_core.specs.Turned.{is_drop, is_add}
use Rattle.hunk_core.specs.LineTests.{ends_line}
use Rattle.hunk_core.specs.declared.command.Action.{Action}
use Rattle.hunk_core.specs.declared.command.Action.TheVariants.{Add, Change, Delete}
use Rattle.hunk_core.specs.Writing.{no_newline}
use Rattle.hunk_core.specs.Spans.{span_text}
use Rattle.normal_form.specs.Stretches.{marks}
use Rattle.hunk_core.specs.Letters.{letter}
use Rattle.normal_form.specs.Grammar.{on_side, SpellsHunk, IsPiece}

-- each of these lines is added
unfoldable pub are_added : List HunkLine → Bool
are_added [] = true
are_added (l ∷ ls) = if is_add l.mark then are_added ls else false

-- no line of context, and the dropped lines before the added ones
unfoldable pub drops_come_first : List HunkLine → Bool
drops_come_first [] = true
drops_come_first (l ∷ ls) = if is_drop l.mark then drops_come_first ls else are_added (l ∷ ls)

-- without old lines 'a', without new ones 'd', else 'c'
abbrev pub action_for : ℕ → ℕ → Action
action_for old new = if old == 0 then Add else if new == 0 then Delete else Change

-- the old lines, a letter, the new lines
abbrev pub command_text : ℕ → ℕ → ℕ → ℕ → List ℕ
command_text old_start old_count new_start new_count = span_text old_start old_count ++ (letter (action_for old_count new_count) ∷ (span_text new_start new_count ++ 10 ∷ []))

-- a change has a line between its sides
abbrev pub divider_text : Action → List ℕ
divider_text Add = []
divider_text Change = 45 ∷ 45 ∷ 45 ∷ 10 ∷ []
divider_text Delete = []

-- a line behind the mark of its side
abbrev pub line_text : Side → List ℕ → List ℕ
line_text side line = marks side ++ (line ++ (if ends_line line then [] else 10 ∷ no_newline))

-- a command with these lines
abbrev pub lines_text : ℕ → ℕ → List (List ℕ) → List (List ℕ) → List ℕ
lines_text old_start new_start olds news = command_text old_start (length olds) new_start (length news) ++ (flat_map (line_text Forward) olds ++ (divider_text (action_for (length olds) (length news)) ++ flat_map (line_text Reversed) news))

-- the command, the old lines, for a change the line between, the new lines
abbrev pub canonical : PlainHunk → List ℕ
canonical h = lines_text h.old_start h.new_start (old_lines h.body) (new_lines h.body)

-- a hunk with its old lines before its new ones
abbrev pub in_order : PlainHunk → PlainHunk
in_order h = record { old_start = h.old_start; new_start = h.new_start; body = on_side Forward (old_lines h.body) ++ on_side Reversed (new_lines h.body) }

-- what was written spells the hunk before this rest, and whatever hunks the whole spells begin with it
pub record SpellsFirst (h : PlainHunk) (written rest : List ℕ) : Type 0 where
  pub own : List (List ℕ)
  pub parts : lines (written ++ rest) ≡ own ++ lines rest
  pub spelled : SpellsHunk 0 own h
  pub first : (number next : ℕ) (hs : List PlainHunk) (behind : List (List ℕ)) → IsPiece number (lines (written ++ rest)) hs next behind → (others : List PlainHunk) × (hs ≡ h ∷ others)
