-- The format at the lines `a` and `bcd`, each with its line feed.
use Rattle.std.proofs.Common.{◌≡◌, [], ◌∷◌, length, take, refl}
use Rattle.page_pair.proofs.Told.{two_lines}
use Rattle.packed_pages.specs.Packs.{pages_of, bytes_of, packs, page_with, packed_record}

pub pages_worked : pages_of 512 two_lines ≡ two_lines ∷ []
unfolding pages_of packed_record
pages_worked = refl

pub size_worked : length (packs 512 two_lines) ≡ 520
unfolding pages_of bytes_of page_with packed_record
size_worked = refl

pub front_worked : take 22 (packs 512 two_lines) ≡ 1 ∷ 0 ∷ 0 ∷ 0 ∷ 0 ∷ 0 ∷ 0 ∷ 0 ∷ 2 ∷ 0 ∷ 0 ∷ 0 ∷ 97 ∷ 10 ∷ 4 ∷ 0 ∷ 0 ∷ 0 ∷ 98 ∷ 99 ∷ 100 ∷ 10 ∷ []
unfolding pages_of bytes_of page_with packed_record
front_worked = refl
