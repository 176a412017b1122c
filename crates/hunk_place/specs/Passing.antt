-- Numbers of a range that pass a test.
use Rattle.std.specs.Prelude.{◌≡◌, ℕ, ◌+◌, ◌-◌, ◌<◌, ◌≤◌, List, Bool, true, false, nat_le, if◌then◌else◌, Option, None, Some, pos, find}
use Rattle.hunk_core.specs.Sides.{taken_count}
use Rattle.hunk_place.specs.Order.{from_to, distance, by_distance}
use Rattle.hunk_place.specs.Placing.{fits}
use Rattle.hunk_place.specs.Taken.{taken_lines, side_lines}
use Rattle.hunk_place.specs.declared.pattern.Pattern.{Pattern}
use Rattle.line_store.specs.Store.{line_at}

-- no number from `from` up to, not including, `to` passes
abbrev pub NonePasses : (ℕ → Bool) → ℕ → ℕ → Type 0
NonePasses f from to = (k : ℕ) → from ≤ k → k < to → f k ≡ false

-- the first of them that passes, if one does
abbrev pub IsFirstPass : (ℕ → Bool) → ℕ → ℕ → Option ℕ → Type 0
IsFirstPass f from to None = NonePasses f from to
IsFirstPass f from to (Some k) = (f k ≡ true) × NonePasses f from k

-- the last of them that passes, if one does
abbrev pub IsLastPass : (ℕ → Bool) → ℕ → ℕ → Option ℕ → Type 0
IsLastPass f from to None = NonePasses f from to
IsLastPass f from to (Some k) = (f k ≡ true) × NonePasses f (k + 1) to

-- none of them passes that lies before this one, or none at all
abbrev pub SkipsTo : (ℕ → Bool) → ℕ → ℕ → Option ℕ → Type 0
SkipsTo f from to None = NonePasses f from to
SkipsTo f from to (Some k) = NonePasses f from k

-- none of them passes that lies behind this one, or none at all
abbrev pub SkipsBack : (ℕ → Bool) → ℕ → ℕ → Option ℕ → Type 0
SkipsBack f from to None = NonePasses f from to
SkipsBack f from to (Some k) = NonePasses f (k + 1) to

-- no number from low to high passes that is nearer to the centre than d
pub record IsScanned (f : ℕ → Bool) (low high centre d : ℕ) : Type 0 where
  pub none : (v : ℕ) → low ≤ v → v ≤ high → v < centre + d → centre < v + d → f v ≡ false

-- the number from low to high that is nearest to the centre, of those that pass; with none, it isn't nearer than d
abbrev pub IsNearest : (ℕ → Bool) → ℕ → ℕ → ℕ → ℕ → Option ℕ → Type 0
IsNearest f low high centre d None = IsScanned f low high centre d
IsNearest f low high centre d (Some w) = find f (by_distance (distance (pos centre)) (from_to low high)) ≡ Some w

-- of a number above the centre and one below, the nearer one, or the greater
abbrev pub nearer : ℕ → Option ℕ → Option ℕ → Option ℕ
nearer centre None below = below
nearer centre (Some u) None = Some u
nearer centre (Some u) (Some w) = if nat_le (u - centre) (centre - w) then Some u else Some w

-- what holds of the test where a pattern fits, if the lines are told
abbrev pub WhereTold : Option (List (List ℕ)) → Pattern → ((ℕ → Bool) → Type 0) → Type 0
WhereTold told p P = (lines : List (List ℕ)) → told ≡ Some lines → (back : ℕ) → p.last ≡ taken_count p.side p.hunk.now.body.items - back → P (fits lines (taken_lines p.text.now p.side p.hunk.now) p.loose p.front back)

-- the first line that a pattern compares, byte by byte
pub record IsFirstLine (p : Pattern) (line : List ℕ) : Type 0 where
  pub exact : p.loose ≡ false
  pub some : p.front < p.last
  pub is : line_at (side_lines p.text.now p.side p.hunk.now.body.items) (p.front + 1) ≡ line
