-- Places in a text, in four bytes each or in eight.
use Rattle.std.specs.Prelude.{ℕ, ◌^◌, ◌<◌, List}
use Rattle.plan_a.specs.declared.places.Places.{Places}
use Rattle.plan_a.specs.declared.places.Places.TheVariants.{Short, Long}

abbrev pub places_of : Places → List ℕ
places_of (Short places) = places.items
places_of (Long places) = places.items

-- a place that fits
abbrev pub Takes : Places → ℕ → Type 0
Takes (Short places) p = p < 2 ^ 32
Takes (Long places) p = p < 2 ^ 64
