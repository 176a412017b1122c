-- What is wrong with a line of unified hunks (GNU diffutils manual, "Detailed Description of Unified Format").
use Rattle.std.specs.Prelude.{◌≡◌, ◌⊎◌, ℕ, ◌+◌, ◌^◌, ◌<◌, ◌≤◌, true, false, List, [], ◌++◌}
use Rattle.hunk_core.specs.declared.BadKind.{BadKind}
use Rattle.hunk_core.specs.declared.BadKind.TheVariants as kinds
use Rattle.hunk_core.specs.PlainHunk.{Marked, PlainHunk}
use Rattle.hunk_core.specs.LineTests.{is_backslash}
use Rattle.unified_form.specs.declared.range.Ranges.{Ranges}
use Rattle.unified_form.specs.Grammar.{Shows, SpellsRanges, SpellsHunks}
use Rattle.hunk_core.specs.Pieces.{last_start}

-- lines that are counted, from 0 on
abbrev pub StartsAtNone : ℕ → ℕ → Type 0
StartsAtNone start count = (start ≡ 0) × (0 < count)

-- not '@@ -', a range, ' +', a range, ' @@' and any rest; or a range of some lines that starts at 0
abbrev pub IsBadRange : List ℕ → Type 0
IsBadRange line = ((r : Ranges) → SpellsRanges line r → ⊥) ⊎ ((r : Ranges) × SpellsRanges line r × (StartsAtNone r.old_start r.old_count ⊎ StartsAtNone r.new_start r.new_count))

-- a start and its count come above the greatest number
abbrev pub IsTooLarge : List ℕ → Type 0
IsTooLarge line = (r : Ranges) × SpellsRanges line r × ((2 ^ 32 ≤ r.old_start + r.old_count) ⊎ (2 ^ 32 ≤ r.new_start + r.new_count))

-- no line is counted on either side
abbrev pub CountsNoLines : List ℕ → Type 0
CountsNoLines line = (r : Ranges) × SpellsRanges line r × (r.old_count ≡ 0) × (r.new_count ≡ 0)

-- the old start is below this number
abbrev pub StartsBelow : ℕ → List ℕ → Type 0
StartsBelow least line = (r : Ranges) × SpellsRanges line r × (r.old_start < least)

-- a space, a tab, '-' and '+' don't come first, the line isn't empty, and it is no backslash line
abbrev pub HasNoMark : List ℕ → Type 0
HasNoMark line = ((m : Marked) → Shows line m → ⊥) × (is_backslash line ≡ false)

-- what is wrong, for each kind of fault, with a line behind these lines of its hunk, which comes behind one that starts at least; no other kinds come
abbrev pub Breaks : ℕ → BadKind → List (List ℕ) → List ℕ → Type 0
Breaks least kinds.Range part line = (part ≡ []) × IsBadRange line
Breaks least kinds.Mark part line = HasNoMark line
Breaks least kinds.Count part line = ((part ≡ []) × CountsNoLines line) ⊎ ((m : Marked) × Shows line m)
Breaks least kinds.ShortEnd part line = ⊥
Breaks least kinds.NumberTooLarge part line = (part ≡ []) × IsTooLarge line
Breaks least kinds.SidesDiffer part line = ⊥
Breaks least kinds.MisplacedBackslash part line = is_backslash line ≡ true
Breaks least kinds.EdCommand part line = ⊥
Breaks least kinds.EdOrder part line = ⊥
Breaks least kinds.EdNoDot part line = ⊥
Breaks least kinds.Binary part line = ⊥
Breaks least kinds.HunkOrder part line = (part ≡ []) × StartsBelow least line

-- in front of the line are whole hunks, the first behind one that starts at least, and then the lines of its own hunk
abbrev pub IsAtFault : ℕ → BadKind → List (List ℕ) → List ℕ → List (List ℕ) → Type 0
IsAtFault least kind front line behind = (hs : List PlainHunk) × (own : List (List ℕ)) × (part : List (List ℕ)) × (front ≡ own ++ part) × SpellsHunks least own hs × Breaks (last_start least hs) kind part line
