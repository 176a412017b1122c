-- Whether the new part of a hunk is there, or left out.
use Rattle.std.specs.Prelude.{◌≡◌, ◌⊎◌, ℕ, Bool, true, false, not, ◌==◌, ◌&&◌, ◌||◌, List, [], ◌∷◌, length, Option, None, Some, is_some, if◌then◌else◌}
use Rattle.hunk_core.specs.declared.Mark.{Mark}
use Rattle.hunk_core.specs.declared.Side.TheVariants.{Forward, Reversed}
use Rattle.hunk_core.specs.PlainHunk.{Marked}
use Rattle.hunk_core.specs.Turned.{is_keep}
use Rattle.context_form.specs.declared.range.Stated.{Stated}
use Rattle.context_form.specs.Ranges.{most, is_count}
use Rattle.context_form.specs.Parts.{mark_at, shown_at, PlainBody}
use Rattle.context_form.specs.Merging.{kept_count}

-- a line with a mark of the new part; two spaces only where they may
abbrev pub may_begin : Bool → Option (Mark × Bool) → Bool
may_begin may_keep None = false
may_begin may_keep (Some m) = may_keep || not (is_keep m.0)

-- '+ ' or '! ' comes first, or two spaces where they may
abbrev pub begins_part : Bool → List (List ℕ) → Bool
begins_part may_keep [] = false
begins_part may_keep (line ∷ rest) = may_begin may_keep (mark_at Reversed line)

-- the old part is there, and no line of it is kept
abbrev pub drops_alone : List Marked → Bool
drops_alone part = not (length part == 0) && kept_count part == 0

-- whether the new part is there. It is left out for 0. Behind one number, and an old part that keeps no
-- line, it is there where '+ ' or '! ' follows, else where two spaces follow too
abbrev pub is_there_by : ℕ → Option ℕ → List Marked → List (List ℕ) → Bool
is_there_by start None olds rest = if start == 0 then false else begins_part (not (drops_alone olds)) rest
is_there_by start (Some count) olds rest = begins_part true rest

-- whether the new part is there by a line that lost no blank
abbrev pub is_there : Stated → List Marked → List (List ℕ) → Bool
is_there s olds rest = is_there_by s.start s.count olds rest

-- a line of the new part comes first, with the blank behind its mark or without
abbrev pub begins_shown : List (List ℕ) → Bool
begins_shown [] = false
begins_shown (line ∷ rest) = is_some (shown_at Reversed line)

-- the old part doesn't tell the new one: it has a line with '!', isn't there, or keeps another number of lines
abbrev pub tells_other : Stated → PlainBody → Bool
tells_other s old = old.changed || (length old.lines == 0 || not (is_count s (kept_count old.lines)))

-- the new part has lines, and can't be left out
abbrev pub is_needed : Stated → PlainBody → Bool
is_needed s old = not (most s == 0) && tells_other s old

-- whether the new part is there, where blanks may be lost: a line that lost its blank begins no part that can be left out.
-- So an empty line behind a hunk, as in mails, stays outside. A line that begins with `--- ` ends the old part, also where
-- it is `-` with a lost blank
abbrev pub is_new : Stated → PlainBody → List (List ℕ) → Bool
is_new s old rest = is_there s old.lines rest || (is_needed s old && begins_shown rest)

-- a line with a mark of the old part comes first
abbrev pub begins_old_part : List (List ℕ) → Bool
begins_old_part [] = false
begins_old_part (line ∷ rest) = is_some (mark_at Forward line)

-- the first of these lines begins with this byte and a space
abbrev pub Begins : ℕ → List (List ℕ) → Type 0
Begins b rest = (bytes : List ℕ) × (more : List (List ℕ)) × (rest ≡ (b ∷ 32 ∷ bytes) ∷ more)

-- '+ ' or '! ' comes first
abbrev pub BeginsChange : List (List ℕ) → Type 0
BeginsChange rest = Begins 43 rest ⊎ Begins 33 rest
