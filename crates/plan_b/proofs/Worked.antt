-- The format at the lines `a` and `bcd`, each with its line feed.
use Rattle.std.proofs.Common.{◌≡◌, [], ◌∷◌, refl}
use Rattle.page_pair.proofs.Told.{two_lines}
use Rattle.plan_b.specs.Pages.{width_of}
use Rattle.page_pair.specs.Records.{record_of}

pub width_worked : width_of two_lines ≡ 8
width_worked = refl

pub first_worked : record_of 8 (97 ∷ 10 ∷ []) ≡ 2 ∷ 0 ∷ 0 ∷ 0 ∷ 97 ∷ 10 ∷ 0 ∷ 0 ∷ []
unfolding record_of
first_worked = refl

pub second_worked : record_of 8 (98 ∷ 99 ∷ 100 ∷ 10 ∷ []) ≡ 4 ∷ 0 ∷ 0 ∷ 0 ∷ 98 ∷ 99 ∷ 100 ∷ 10 ∷ []
unfolding record_of
second_worked = refl
