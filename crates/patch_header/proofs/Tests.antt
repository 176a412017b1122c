-- Tests that are asked one after another.
use Rattle.std.proofs.Common.{◌≡◌, Bool, true, false, ◌&&◌, ◌||◌}

pub first-of : (r a b : Bool) → r ≡ a → r ≡ true → r ≡ (a || b)
first-of r true b e h = e
first-of r false b e h = absurd cc

pub second-of : (r s a b : Bool) → r ≡ a → r ≡ false → s ≡ b → s ≡ (a || b)
second-of r s true b e h k = absurd cc
second-of r s false b e h k = k

pub first-no : (r a b : Bool) → r ≡ a → r ≡ false → r ≡ (a && b)
first-no r true b e h = absurd cc
first-no r false b e h = e

pub both-asked : (r s a b : Bool) → r ≡ a → r ≡ true → s ≡ b → s ≡ (a && b)
both-asked r s true b e h k = k
both-asked r s false b e h k = absurd cc
