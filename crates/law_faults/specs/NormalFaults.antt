-- What is wrong with a line of normal hunks (GNU diffutils manual, "Detailed Description of Normal Format").
use Rattle.std.specs.Prelude.{◌≡◌, ◌≢◌, ◌⊎◌, ℕ, ◌+◌, ◌^◌, ◌<◌, ◌≤◌, Bool, true, false, List, [], ◌∷◌, ◌++◌, length}
use Rattle.hunk_core.specs.declared.BadKind.{BadKind}
use Rattle.hunk_core.specs.declared.BadKind.TheVariants as kinds
use Rattle.hunk_core.specs.declared.Side.{Side}
use Rattle.hunk_core.specs.declared.Side.TheVariants.{Forward, Reversed}
use Rattle.hunk_core.specs.PlainHunk.{PlainHunk}
use Rattle.hunk_core.specs.LineTests.{is_backslash}
use Rattle.hunk_core.specs.declared.command.Action.{Action}
use Rattle.hunk_core.specs.declared.command.Action.TheVariants.{Add, Change, Delete}
use Rattle.normal_form.specs.declared.command.Command.{Command}
use Rattle.normal_form.specs.Commands.{takes_lines}
use Rattle.normal_form.specs.Stretches.{marks, is_divider}
use Rattle.normal_form.specs.Grammar.{IsCommand, SpellsStretch, SpellsCommand, SpellsHunks}
use Rattle.hunk_core.specs.Pieces.{last_start}

-- lines whose second number is below the first, or that start at 0; or two numbers for a place
abbrev pub IsBadSpan : Bool → Bool → ℕ → ℕ → Type 0
IsBadSpan true single first last = (last < first) ⊎ (first ≡ 0)
IsBadSpan false single first last = single ≡ false

-- a start and the count of its lines come above the greatest number, or the number of a place does
abbrev pub IsLargeSpan : Bool → ℕ → ℕ → Type 0
IsLargeSpan true first last = (count : ℕ) × (first + count ≡ last + 1) × (2 ^ 32 ≤ first + count)
IsLargeSpan false first last = 2 ^ 32 ≤ first

-- a command with a range that may not be
abbrev pub IsBadRange : List ℕ → Type 0
IsBadRange line = (c : IsCommand line) × (IsBadSpan (takes_lines c.action Forward) c.old_range.0 c.old_range.1 c.old_range.2 ⊎ IsBadSpan (takes_lines c.action Reversed) c.new_range.0 c.new_range.1 c.new_range.2)

-- a command with a number that is too large
abbrev pub IsTooLarge : List ℕ → Type 0
IsTooLarge line = (c : IsCommand line) × (IsLargeSpan (takes_lines c.action Forward) c.old_range.1 c.old_range.2 ⊎ IsLargeSpan (takes_lines c.action Reversed) c.new_range.1 c.new_range.2)

-- the first old number is below this one
abbrev pub StartsBelow : ℕ → List ℕ → Type 0
StartsBelow least line = (c : IsCommand line) × (c.old_range.1 < least)

-- behind these lines, which are fewer than so many of this side, a line doesn't begin with '< ' for old ones, '> ' for new ones
abbrev pub LacksSide : Side → ℕ → List (List ℕ) → List ℕ → Type 0
LacksSide side count part line = (ls : List (List ℕ)) × SpellsStretch side part ls × (length ls < count) × ((bytes : List ℕ) → line ≢ marks side ++ bytes)

-- behind these lines, which are so many old ones, a line isn't '---'
abbrev pub LacksDivider : ℕ → List (List ℕ) → List ℕ → Type 0
LacksDivider count part line = (ls : List (List ℕ)) × SpellsStretch Forward part ls × (length ls ≡ count) × (is_divider line ≡ false)

-- behind these lines, which are so many old ones, '---' and fewer than so many new ones, a line lacks the mark of a new one
abbrev pub LacksNew : ℕ → ℕ → List (List ℕ) → List ℕ → Type 0
LacksNew old_count new_count part line = (old : List (List ℕ)) × (divider : List ℕ) × (new : List (List ℕ)) × (part ≡ old ++ divider ∷ new)
    × (ls : List (List ℕ)) × SpellsStretch Forward old ls × (length ls ≡ old_count) × (is_divider divider ≡ true) × LacksSide Reversed new_count new line

-- behind these lines of a hunk a line isn't what must stand there
abbrev pub LacksMark : Action → ℕ → ℕ → List (List ℕ) → List ℕ → Type 0
LacksMark Add old_count new_count part line = LacksSide Reversed new_count part line
LacksMark Change old_count new_count part line = LacksSide Forward old_count part line ⊎ (LacksDivider old_count part line ⊎ LacksNew old_count new_count part line)
LacksMark Delete old_count new_count part line = LacksSide Forward old_count part line

-- the same behind the command of the hunk
abbrev pub HasNoMark : List (List ℕ) → List ℕ → Type 0
HasNoMark [] line = ⊥
HasNoMark (first ∷ part) line = (c : Command) × SpellsCommand first c × LacksMark c.action c.old_count c.new_count part line

-- what is wrong, for each kind of fault, with a line behind these lines of its hunk, which comes behind one that starts at least; no other kinds come
abbrev pub Breaks : ℕ → BadKind → List (List ℕ) → List ℕ → Type 0
Breaks least kinds.Range part line = (part ≡ []) × IsBadRange line
Breaks least kinds.Mark part line = HasNoMark part line × (is_backslash line ≡ false)
Breaks least kinds.Count part line = ⊥
Breaks least kinds.ShortEnd part line = ⊥
Breaks least kinds.NumberTooLarge part line = (part ≡ []) × IsTooLarge line
Breaks least kinds.SidesDiffer part line = ⊥
Breaks least kinds.MisplacedBackslash part line = is_backslash line ≡ true
Breaks least kinds.EdCommand part line = ⊥
Breaks least kinds.EdOrder part line = ⊥
Breaks least kinds.EdNoDot part line = ⊥
Breaks least kinds.Binary part line = ⊥
Breaks least kinds.HunkOrder part line = (part ≡ []) × StartsBelow least line

-- in front of the line are whole hunks, the first behind one that starts at least, and then the lines of its own hunk
abbrev pub IsAtFault : ℕ → BadKind → List (List ℕ) → List ℕ → List (List ℕ) → Type 0
IsAtFault least kind front line behind = (hs : List PlainHunk) × (own : List (List ℕ)) × (part : List (List ℕ)) × (front ≡ own ++ part) × SpellsHunks least own hs × Breaks (last_start least hs) kind part line
