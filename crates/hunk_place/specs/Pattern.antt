-- The old lines that are compared at each place of a search.
use Rattle.std.specs.Prelude.{◌≡◌, ℕ, ◌+◌, ◌-◌, ◌<◌, ◌≤◌, List, drop}
use Rattle.hunk_core.specs.Sides.{taken_count}
use Rattle.hunk_core.specs.Turned.{IsLawful}
use Rattle.hunk_place.specs.Taken.{side_lines}
use Rattle.hunk_place.specs.declared.pattern.Pattern.{Pattern}

-- the lines behind the first `front` old lines begin at body line `from`, and those up to old line `last` are compared
pub record IsPattern (p : Pattern) : Type 0 where
  pub lawful : IsLawful p.text.now p.hunk.now
  pub from : side_lines p.text.now p.side (drop p.from p.hunk.now.body.items) ≡ drop p.front (side_lines p.text.now p.side p.hunk.now.body.items)
  pub last : p.last ≤ taken_count p.side p.hunk.now.body.items

-- the lines that are compared lie in a list of so many lines when the first old line stands at w
abbrev pub LieWithin : Pattern → ℕ → ℕ → Type 0
LieWithin p count w = p.front < p.last → (1 ≤ w + p.front) × (w + p.last ≤ count + 1)
