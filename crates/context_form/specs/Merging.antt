-- The two parts of a hunk as one body.
use Rattle.std.specs.Prelude.{◌≡◌, ℕ, Bool, true, false, not, ◌&&◌, List, [], ◌∷◌, ◌++◌, length, filter, count_by, Option, None, Some, if◌then◌else◌}
use Rattle.std.specs.Str.{bytes_eq}
use Rattle.hunk_core.specs.declared.Mark.{Mark}
use Rattle.hunk_core.specs.declared.Side.{Side}
use Rattle.hunk_core.specs.Sides.{is_on_side}
use Rattle.hunk_core.specs.PlainHunk.{Marked}
use Rattle.hunk_core.specs.Turned.{is_keep, is_drop, is_add}
use Rattle.context_form.specs.Parts.{PlainBody}

-- the changes before the first kept line
unfoldable pub before_kept : List Marked → List Marked
before_kept [] = []
before_kept (m ∷ part) = if is_keep m.mark then [] else m ∷ before_kept part

-- what is from the first kept line on
unfoldable pub from_kept : List Marked → List Marked
from_kept [] = []
from_kept (m ∷ part) = if is_keep m.mark then m ∷ part else from_kept part

-- a part goes on with this line
abbrev pub agrees : Marked → List Marked → Bool
agrees m [] = false
agrees m (k ∷ part) = bytes_eq m.line k.line

-- what stands behind a line
abbrev pub rest_of : List Marked → List Marked
rest_of [] = []
rest_of (k ∷ part) = part

-- these lines before others, if there are others
abbrev pub with_front : List Marked → Option (List Marked) → Option (List Marked)
with_front front None = None
with_front front (Some body) = Some (front ++ body)

-- what is left of the new part, where no line of the old part is left
abbrev pub only_changes : List Marked → List Marked → Option (List Marked)
only_changes changes [] = Some changes
only_changes changes (k ∷ part) = None

-- an old and a new part as one body: between two kept lines the dropped ones come first
unfoldable pub merge : List Marked → List Marked → Option (List Marked)
merge [] news = only_changes (before_kept news) (from_kept news)
merge (m ∷ olds) news =
    if is_keep m.mark
    then (if agrees m (from_kept news) then with_front (before_kept news ++ m ∷ []) (merge olds (rest_of (from_kept news))) else None)
    else with_front (m ∷ []) (merge olds news)

-- a part whose partner is left out is the body, unless it has a line with '!'
abbrev pub alone : PlainBody → Option (List Marked)
alone b = if b.changed then None else Some b.lines

-- the body of the two parts, of which one may be left out
abbrev pub joined_by : PlainBody → PlainBody → List Marked → List Marked → Option (List Marked)
joined_by old new [] [] = None
joined_by old new [] (n ∷ news) = alone new
joined_by old new (o ∷ olds) [] = alone old
joined_by old new (o ∷ olds) (n ∷ news) = merge (o ∷ olds) (n ∷ news)

-- the body of the two parts, where they agree
abbrev pub joined : PlainBody → PlainBody → Option (List Marked)
joined old new = joined_by old new old.lines new.lines

-- how many lines are kept
abbrev pub kept_count : List Marked → ℕ
kept_count part = count_by (λ m. is_keep m.mark) part

-- how many lines a part with this partner has: where it is left out, the kept lines of the partner
abbrev pub size_by : List Marked → List Marked → ℕ
size_by [] partner = kept_count partner
size_by (m ∷ part) partner = length (m ∷ part)

-- how many lines a part with this partner has
abbrev pub size_beside : PlainBody → PlainBody → ℕ
size_beside part partner = size_by part.lines partner.lines

-- ---- the same by the sides of the body, apart from any merging

-- the lines of a body that its old or its new part shows, with their marks
abbrev pub part_of : Side → List Marked → List Marked
part_of side body = filter (λ m. is_on_side side m.mark) body

-- a dropped line doesn't come right behind an added one
abbrev pub may_follow : Mark → List Marked → Bool
may_follow mark [] = true
may_follow mark (m ∷ body) = not (is_add mark && is_drop m.mark)

-- between two kept lines the dropped ones come first
abbrev pub DropsFirst : List Marked → Type 0
DropsFirst [] = Unit {0}
DropsFirst (m ∷ body) = (may_follow m.mark body ≡ true) × DropsFirst body
