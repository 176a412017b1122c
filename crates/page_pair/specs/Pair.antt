-- Two pages of one size.
use Rattle.std.specs.Prelude.{◌≡◌, ℕ, List, length}
use Rattle.std.specs.List.{refill}
use Rattle.line_store.specs.Taking.{IsSize}
use Rattle.line_store.specs.declared.Half.{Half}
use Rattle.line_store.specs.declared.Half.TheVariants.{First, Second}

pub record Pair : Type 0 where
  pub size : ℕ
  pub first : List ℕ
  pub second : List ℕ

abbrev pub page_of : Pair → Half → List ℕ
page_of p First = p.first
page_of p Second = p.second

abbrev pub other_half : Half → Half
other_half First = Second
other_half Second = First

-- the pair with other bytes in one page, as many as fit it
abbrev pub with_page : Pair → Half → List ℕ → Pair
with_page p First bytes = record { size = p.size; first = refill p.size p.first bytes; second = p.second }
with_page p Second bytes = record { size = p.size; first = p.first; second = refill p.size p.second bytes }

-- both pages have the size, from 512 to 1,048,576
pub record IsPair (p : Pair) : Type 0 where
  pub sized : IsSize p.size
  pub first : length p.first ≡ p.size
  pub second : length p.second ≡ p.size
