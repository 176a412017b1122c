-- Places that fit.
use Rattle.std.proofs.Common.{ℕ, ◌≤◌, arith}
use Rattle.plan_a.specs.Places.{Takes}
use Rattle.plan_a.specs.declared.places.Places.{Places}
use Rattle.plan_a.specs.declared.places.Places.TheVariants.{Short, Long}

-- a place before one that fits
pub takes-less : (places : Places) (p q : ℕ) → p ≤ q → Takes places q → Takes places p
takes-less (Short places) p q le h = omega arith
takes-less (Long places) p q le h = omega arith
