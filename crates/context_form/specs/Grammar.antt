-- The grammar of the context form, apart from any reading: which lines spell which hunks.
use Rattle.std.specs.Prelude.{◌≡◌, ℕ, ◌+◌, ◌^◌, ◌<◌, ◌≤◌, Bool, true, false, ◌==◌, ◌||◌, ◌⊎◌, List, [], ◌∷◌, ◌++◌, length, None, Some, if◌then◌else◌}
use Rattle.std.specs.List.{AllByRecursion}
use Rattle.hunk_core.specs.declared.Mark.{Mark}
use Rattle.hunk_core.specs.declared.Mark.TheVariants.{Keep, Drop, Add}
use Rattle.hunk_core.specs.declared.Side.{Side}
use Rattle.hunk_core.specs.declared.Side.TheVariants.{Forward, Reversed}
use Rattle.hunk_core.specs.PlainHunk.{Marked, PlainHunk}
use Rattle.hunk_core.specs.LineTests.{marked, unended, is_backslash}
use Rattle.num_text.specs.Numbers.{IsNumeral}
use Rattle.hunk_core.specs.Following.{SpellsEach, IsPieceOf}
use Rattle.context_form.specs.declared.range.Stated.{Stated}
use Rattle.context_form.specs.Openings.{is_stars, begins_hunk}
use Rattle.context_form.specs.Ranges.{before_range, behind_range, is_blank}
use Rattle.context_form.specs.Merging.{part_of, DropsFirst}
use Rattle.context_form.specs.Parts.{PlainBody, behind_blank, begins_new}
use Rattle.context_form.specs.Presence.{is_there, is_new}

-- ---- range lines

-- spaces and tabs
abbrev pub AreBlanks : List ℕ → Type 0
AreBlanks [] = Unit {0}
AreBlanks (b ∷ bytes) = (is_blank b ≡ true) × AreBlanks bytes

-- a number, with blanks around it or none
pub record IsSpaced (text : List ℕ) (n : ℕ) : Type 0 where
  pub front : List ℕ
  pub digits : List ℕ
  pub behind : List ℕ
  pub parts : text ≡ front ++ (digits ++ behind)
  pub before : AreBlanks front
  pub numeral : IsNumeral digits n
  pub after : AreBlanks behind

-- one number, which counts as both, or two with a comma
abbrev pub SpellsSpaced : List ℕ → Bool → ℕ → ℕ → Type 0
SpellsSpaced text true first last = (last ≡ first) × IsSpaced text first
SpellsSpaced text false first last = (one : List ℕ) × (two : List ℕ) × IsSpaced one first × IsSpaced two last × (text ≡ one ++ 44 ∷ two)

-- one number for one line or none, and 0 for none; or two for the first and the last of some lines
abbrev pub SpellsNumbers : List ℕ → Bool → ℕ → ℕ → Type 0
SpellsNumbers text true start count = IsSpaced text start × (count < 2) × (start ≡ 0 → count ≡ 0)
SpellsNumbers text false start count = (first : List ℕ) × (second : List ℕ) × (last : ℕ) × (text ≡ first ++ 44 ∷ second) × IsSpaced first start × IsSpaced second last
    × (1 ≤ start) × (start ≤ last) × (start + count ≡ last + 1)

-- '*** ', numbers, '****' for an old part; '--- ', numbers, '----' for a new one; and any rest
pub record SpellsRange (side : Side) (line : List ℕ) (single : Bool) (start count : ℕ) : Type 0 where
  pub text : List ℕ
  pub rest : List ℕ
  pub parts : line ≡ before_range side ++ (text ++ (behind_range side ++ rest))
  pub numbers : SpellsNumbers text single start count

-- ---- parts

-- a space for a kept line; '-' or '!' for a dropped one, '+' or '!' for an added one
abbrev pub mark_byte : Bool → Mark → ℕ
mark_byte changed Keep = 32
mark_byte changed Drop = if changed then 33 else 45
mark_byte changed Add = if changed then 33 else 43

-- nothing but its line feed
abbrev pub IsEmptyLine : List ℕ → Type 0
IsEmptyLine [] = ⊥
IsEmptyLine (b ∷ bytes) = b ≡ 10

-- a line shows a marked line behind its mark and one blank, if there is one, and isn't taken for the range line of a new part; an empty line shows a kept one
abbrev pub Shows : List ℕ → Marked → Type 0
Shows line m = ((changed : Bool) × (bytes : List ℕ) × (line ≡ mark_byte changed m.mark ∷ bytes) × (m.line ≡ behind_blank bytes) × (begins_new (line ∷ []) ≡ false)) ⊎ (IsEmptyLine line × (m ≡ marked Keep line))

-- the lines that a line of a part takes, before these others: itself, and a backslash line where it is the last and has no line feed
abbrev pub SpellsLine : List (List ℕ) → Marked → List Marked → Type 0
SpellsLine [] m others = ⊥
SpellsLine (line ∷ []) m others = Shows line m
SpellsLine (line ∷ mark ∷ []) m others = (is_backslash mark ≡ true) × (others ≡ []) × (full : Marked) × Shows line full × (m ≡ unended full)
SpellsLine (line ∷ mark ∷ other ∷ more) m others = ⊥

-- these lines are this part
abbrev pub SpellsPart : List (List ℕ) → List Marked → Type 0
SpellsPart piece [] = piece ≡ []
SpellsPart piece (m ∷ part) = (own : List (List ℕ)) × (rest : List (List ℕ)) × (piece ≡ own ++ rest) × SpellsLine own m part × SpellsPart rest part

-- '!' comes first
abbrev pub is_change : List ℕ → Bool
is_change [] = false
is_change (b ∷ bytes) = b == 33

-- a line of a part is marked '!'
abbrev pub has_change : List (List ℕ) → Bool
has_change [] = false
has_change (line ∷ piece) = is_change line || has_change piece

-- each of these lines is kept
abbrev pub AreKept : List Marked → Type 0
AreKept part = AllByRecursion (λ m. m.mark ≡ Keep) part

-- the part of a body, beside its partner: written out, or left out, where the part has no changes, and its partner no '!'
abbrev pub SpellsSide : Side → List (List ℕ) → List (List ℕ) → List Marked → Type 0
SpellsSide side [] partner body = AreKept (part_of side body) × (has_change partner ≡ false)
SpellsSide side (line ∷ piece) partner body = SpellsPart (line ∷ piece) (part_of side body)

-- ---- hunks

-- what one number states, or two
abbrev pub stated_as : Bool → ℕ → ℕ → Stated
stated_as true start count = record { start = start; count = None }
stated_as false start count = record { start = start; count = Some count }

-- the lines of a part that are written
abbrev pub written : Side → List (List ℕ) → List Marked → List Marked
written side [] body = []
written side (line ∷ piece) body = part_of side body

-- a part as its lines tell it
abbrev pub told_by : Side → List (List ℕ) → List Marked → PlainBody
told_by side piece body = record { lines = written side piece body; changed = has_change piece }

-- these lines are this hunk, behind one that starts at least and before these others: asterisks, the old range, the old part, the new range, the new part
pub record SpellsHunk (least : ℕ) (own behind : List (List ℕ)) (h : PlainHunk) : Type 0 where
  pub stars : List ℕ
  pub old_line : List ℕ
  pub old : List (List ℕ)
  pub new_line : List ℕ
  pub new : List (List ℕ)
  pub parts : own ≡ stars ∷ old_line ∷ (old ++ new_line ∷ new)
  pub asterisks : is_stars stars ≡ true
  pub old_single : Bool
  pub new_single : Bool
  pub old_range : SpellsRange Forward old_line old_single h.old_start (length (part_of Forward h.body))
  pub new_range : SpellsRange Reversed new_line new_single h.new_start (length (part_of Reversed h.body))
  pub old_part : SpellsSide Forward old new h.body
  pub new_part : SpellsSide Reversed new old h.body
  -- a part is written
  pub some : 0 < length (old ++ new)
  -- between two kept lines the dropped ones come first
  pub drops : DropsFirst h.body
  -- no number is too large
  pub old_fits : h.old_start + length (part_of Forward h.body) < 2 ^ 32
  pub new_fits : h.new_start + length (part_of Reversed h.body) < 2 ^ 32
  pub order : least ≤ h.old_start
  -- a new part that is written is told by its first line
  pub begins : 0 < length new → is_new (stated_as new_single h.new_start (length (part_of Reversed h.body))) (told_by Forward old h.body) new ≡ true
  -- no line follows that would begin a new part which is left out
  pub told : new ≡ [] → is_there (stated_as new_single h.new_start (length (part_of Reversed h.body))) (written Forward old h.body) behind ≡ false

-- these lines are this hunk, behind one that starts at least, where the text ends with them
abbrev pub SpellsPiece : ℕ → List (List ℕ) → PlainHunk → Type 0
SpellsPiece least own h = SpellsHunk least own [] h

-- these lines are these hunks, the first behind one that starts at least, before this rest
abbrev pub SpellsHunks : ℕ → List (List ℕ) → List (List ℕ) → List PlainHunk → Type 0
SpellsHunks least piece rest hs = SpellsEach SpellsHunk least piece rest hs

-- the lines ahead are these hunks, and then this rest, whose first line has this number: neither a hunk nor a backslash line
abbrev pub IsPiece : ℕ → List (List ℕ) → List PlainHunk → ℕ → List (List ℕ) → Type 0
IsPiece number lines hs next rest = IsPieceOf begins_hunk (λ own behind hs. SpellsHunks 0 own behind hs) number lines hs next rest
