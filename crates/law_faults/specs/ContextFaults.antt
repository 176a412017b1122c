-- What is wrong with a line of context hunks (GNU diffutils manual, "Detailed Description of Context Format").
use Rattle.std.specs.Prelude.{◌≡◌, ◌≢◌, ◌⊎◌, ℕ, ◌+◌, ◌^◌, ◌<◌, ◌≤◌, Bool, true, false, List, [], ◌∷◌, ◌++◌, is_some}
use Rattle.std.specs.List.{AllByRecursion}
use Rattle.hunk_core.specs.declared.Mark.{Mark}
use Rattle.hunk_core.specs.declared.BadKind.{BadKind}
use Rattle.hunk_core.specs.declared.BadKind.TheVariants as kinds
use Rattle.hunk_core.specs.declared.Side.{Side}
use Rattle.hunk_core.specs.declared.Side.TheVariants.{Forward, Reversed}
use Rattle.hunk_core.specs.Sides.{is_on_side}
use Rattle.hunk_core.specs.PlainHunk.{PlainHunk}
use Rattle.hunk_core.specs.LineTests.{after, is_backslash}
use Rattle.context_form.specs.Ranges.{before_range, behind_range}
use Rattle.context_form.specs.Grammar.{mark_byte, IsEmptyLine, SpellsSpaced, SpellsRange, SpellsHunks}
use Rattle.hunk_core.specs.Pieces.{last_start}

-- '*** ', one number or two, '****' for an old part; '--- ', numbers, '----' for a new one; and any rest
pub record HasNumbers (side : Side) (line : List ℕ) (single : Bool) (first last : ℕ) : Type 0 where
  pub text : List ℕ
  pub rest : List ℕ
  pub parts : line ≡ before_range side ++ (text ++ (behind_range side ++ rest))
  pub spelled : SpellsSpaced text single first last

-- the line isn't of this form, or has two numbers, the second below the first, or the first 0
abbrev pub IsBadRange : Side → List ℕ → Type 0
IsBadRange side line = ((single : Bool) (first last : ℕ) → HasNumbers side line single first last → ⊥) ⊎ ((first : ℕ) × (last : ℕ) × HasNumbers side line false first last × ((last < first) ⊎ (first ≡ 0)))

-- a start and a count that the line may state come above the greatest number
abbrev pub IsTooLarge : Side → List ℕ → Type 0
IsTooLarge side line = (single : Bool) × (start : ℕ) × (count : ℕ) × SpellsRange side line single start count × (2 ^ 32 ≤ start + count)

-- the start of an old part is below this number
abbrev pub StartsBelow : Side → ℕ → List ℕ → Type 0
StartsBelow side least line = (single : Bool) × (first : ℕ) × (last : ℕ) × HasNumbers side line single first last × (first < least)

-- a space and '!' don't come first, nor '-' in an old part, '+' in a new one; and it is neither empty nor a backslash line
abbrev pub HasNoMark : Side → List ℕ → Type 0
HasNoMark side line = ((changed : Bool) (mark : Mark) (bytes : List ℕ) → is_on_side side mark ≡ true → line ≢ mark_byte changed mark ∷ bytes) × (IsEmptyLine line → ⊥) × (is_backslash line ≡ false)

-- '--- ' comes first
abbrev pub has_dashes : List ℕ → Bool
has_dashes line = is_some (after (45 ∷ 45 ∷ 45 ∷ 32 ∷ []) line)

-- these lines of a hunk stand in front of the range line of its old part: asterisks; or of its new part: besides, the old range and the old part
abbrev pub IsBeforeRange : Side → List (List ℕ) → Type 0
IsBeforeRange Forward part = (stars : List ℕ) × (part ≡ stars ∷ [])
IsBeforeRange Reversed part = (stars : List ℕ) × (range : List ℕ) × (old : List (List ℕ)) × (part ≡ stars ∷ range ∷ old)

-- these lines of a hunk end within its old part, whose end '--- ' begins, or within its new part
abbrev pub EndsWithin : Side → List (List ℕ) → Type 0
EndsWithin Forward part = (stars : List ℕ) × (range : List ℕ) × (old : List (List ℕ)) × (part ≡ stars ∷ range ∷ old) × AllByRecursion (λ line. has_dashes line ≡ false) old
EndsWithin Reversed part = (stars : List ℕ) × (range : List ℕ) × (old : List (List ℕ)) × (dashes : List ℕ) × (new : List (List ℕ)) × (part ≡ stars ∷ range ∷ (old ++ dashes ∷ new)) × (has_dashes dashes ≡ true)

-- what is wrong, for each kind of fault, with a line behind these lines of its hunk, which comes behind one that starts at least; of two kinds the line alone doesn't tell, and others don't come
abbrev pub Breaks : ℕ → BadKind → List (List ℕ) → List ℕ → Type 0
Breaks least kinds.Range part line = (side : Side) × IsBeforeRange side part × IsBadRange side line
Breaks least kinds.Mark part line = (side : Side) × EndsWithin side part × HasNoMark side line
Breaks least kinds.Count part line = Unit {0}
Breaks least kinds.ShortEnd part line = ⊥
Breaks least kinds.NumberTooLarge part line = (side : Side) × IsBeforeRange side part × IsTooLarge side line
Breaks least kinds.SidesDiffer part line = Unit {0}
Breaks least kinds.MisplacedBackslash part line = is_backslash line ≡ true
Breaks least kinds.EdCommand part line = ⊥
Breaks least kinds.EdOrder part line = ⊥
Breaks least kinds.EdNoDot part line = ⊥
Breaks least kinds.Binary part line = ⊥
Breaks least kinds.HunkOrder part line = IsBeforeRange Forward part × StartsBelow Forward least line

-- in front of the line are whole hunks, the first behind one that starts at least, and then the lines of its own hunk
abbrev pub IsAtFault : ℕ → BadKind → List (List ℕ) → List ℕ → List (List ℕ) → Type 0
IsAtFault least kind front line behind = (hs : List PlainHunk) × (own : List (List ℕ)) × (part : List (List ℕ)) × (front ≡ own ++ part) × SpellsHunks least own (part ++ line ∷ behind) hs × Breaks (last_start least hs) kind part line
