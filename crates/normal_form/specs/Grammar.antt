-- The grammar of the normal form, apart from any reading: which lines spell which hunks.
use Rattle.std.specs.Prelude.{◌≡◌, ◌⊎◌, ℕ, ◌+◌, ◌-◌, ◌≤◌, Bool, true, false, List, [], ◌∷◌, ◌++◌, length, map, take}
use Rattle.hunk_core.specs.declared.Side.{Side}
use Rattle.hunk_core.specs.declared.Side.TheVariants.{Forward, Reversed}
use Rattle.hunk_core.specs.PlainHunk.{Marked, PlainHunk}
use Rattle.hunk_core.specs.LineTests.{marked, is_backslash}
use Rattle.num_text.specs.Numbers.{IsNumeral}
use Rattle.num_text.specs.NumberRanges.{SpellsRange}
use Rattle.hunk_core.specs.declared.command.Action.{Action}
use Rattle.hunk_core.specs.declared.command.Action.TheVariants.{Add, Change, Delete}
use Rattle.hunk_core.specs.Sides.{own_mark}
use Rattle.normal_form.specs.declared.command.Command.{Command}
use Rattle.hunk_core.specs.Letters.{letter, is_line_end}
use Rattle.normal_form.specs.Commands.{takes_lines, Fits}
use Rattle.normal_form.specs.Stretches.{marks, is_divider}
use Rattle.hunk_core.specs.Following.{SpellsEach, IsPieceOf}
use Rattle.normal_form.specs.Hunks.{begins_hunk}

-- lines of a body that are on this side alone
abbrev pub on_side : Side → List (List ℕ) → List Marked
on_side side ls = map (marked (own_mark side)) ls

-- the lines that a line of this side takes, before these others: itself behind '< ' or '> ', and a backslash line where it is the last and has no line feed
abbrev pub SpellsLine : Side → List (List ℕ) → List ℕ → List (List ℕ) → Type 0
SpellsLine side [] l others = ⊥
SpellsLine side (line ∷ []) l others = line ≡ marks side ++ l
SpellsLine side (line ∷ mark ∷ []) l others = (is_backslash mark ≡ true) × (others ≡ []) × (full : List ℕ) × (line ≡ marks side ++ full) × (l ≡ take (length full - 1) full)
SpellsLine side (line ∷ mark ∷ other ∷ more) l others = ⊥

-- these lines are these of this side
abbrev pub SpellsStretch : Side → List (List ℕ) → List (List ℕ) → Type 0
SpellsStretch side piece [] = piece ≡ []
SpellsStretch side piece (l ∷ ls) = (own : List (List ℕ)) × (rest : List (List ℕ)) × (piece ≡ own ++ rest) × SpellsLine side own l ls × SpellsStretch side rest ls

-- 'a' has the new lines, 'd' the old ones; 'c' has the old ones, '---' and the new ones
abbrev pub SpellsBody : Action → List (List ℕ) → List (List ℕ) → List (List ℕ) → Type 0
SpellsBody Add piece olds news = (olds ≡ []) × SpellsStretch Reversed piece news
SpellsBody Change piece olds news = (old : List (List ℕ)) × (line : List ℕ) × (new : List (List ℕ)) × (piece ≡ old ++ line ∷ new) × SpellsStretch Forward old olds × (is_divider line ≡ true) × SpellsStretch Reversed new news
SpellsBody Delete piece olds news = SpellsStretch Forward piece olds × (news ≡ [])

-- lines from start on, one number or two with a comma; or the place behind the line start, one number
abbrev pub SpellsSpan : List ℕ → Bool → ℕ → ℕ → Type 0
SpellsSpan text true start count = (single : Bool) × (last : ℕ) × SpellsRange text single start last × (1 ≤ start) × (start ≤ last) × (start + count ≡ last + 1)
SpellsSpan text false start count = IsNumeral text start × (count ≡ 0)

-- the old lines, a letter, the new lines, and nothing more
pub record SpellsCommand (line : List ℕ) (c : Command) : Type 0 where
  pub old : List ℕ
  pub new : List ℕ
  pub rest : List ℕ
  pub parts : line ≡ old ++ letter c.action ∷ (new ++ rest)
  pub ends : is_line_end rest ≡ true
  pub old_span : SpellsSpan old (takes_lines c.action Forward) c.old_start c.old_count
  pub new_span : SpellsSpan new (takes_lines c.action Reversed) c.new_start c.new_count

-- no number is too large, and the old start is not below the least
pub record AreFair (least : ℕ) (c : Command) : Type 0 where
  pub fits : Fits c
  pub order : least ≤ c.old_start

-- the command of a hunk with these old and new lines
abbrev pub command_of : Action → PlainHunk → List (List ℕ) → List (List ℕ) → Command
command_of action h olds news = record { action = action; old_start = h.old_start; old_count = length olds; new_start = h.new_start; new_count = length news }

-- these lines are this hunk, behind one that starts at least: old lines, and then new ones
abbrev pub SpellsHunk : ℕ → List (List ℕ) → PlainHunk → Type 0
SpellsHunk least [] h = ⊥
SpellsHunk least (line ∷ rest) h = (action : Action) × (olds : List (List ℕ)) × (news : List (List ℕ)) × (h.body ≡ on_side Forward olds ++ on_side Reversed news)
    × SpellsCommand line (command_of action h olds news) × AreFair least (command_of action h olds news) × SpellsBody action rest olds news

-- these lines are these hunks, the first behind one that starts at least
abbrev pub SpellsHunks : ℕ → List (List ℕ) → List PlainHunk → Type 0
SpellsHunks least piece hs = SpellsEach (λ start own behind h. SpellsHunk start own h) least piece [] hs

-- the lines ahead are these hunks, and then this rest, whose first line has this number: neither a hunk nor a backslash line
abbrev pub IsPiece : ℕ → List (List ℕ) → List PlainHunk → ℕ → List (List ℕ) → Type 0
IsPiece number lines hs next rest = IsPieceOf begins_hunk (λ own behind hs. SpellsHunks 0 own hs) number lines hs next rest

-- a number, or two with a comma between them
abbrev pub IsRange : List ℕ → Type 0
IsRange text = (single : Bool) × (first : ℕ) × (last : ℕ) × SpellsRange text single first last

-- a range, one of 'a', 'c' and 'd', a range, and nothing more but a line feed
pub record IsCommand (line : List ℕ) : Type 0 where
  pub old : List ℕ
  pub action : Action
  pub new : List ℕ
  pub rest : List ℕ
  pub parts : line ≡ old ++ letter action ∷ (new ++ rest)
  pub old_range : IsRange old
  pub new_range : IsRange new
  pub ends : (rest ≡ []) ⊎ (rest ≡ 10 ∷ [])
