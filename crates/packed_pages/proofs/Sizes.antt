-- What the sizes of pages bound.
use Rattle.std.proofs.Common.{◌≡◌, ℕ, ◌*◌, ◌^◌, ◌≤◌, length, arith}
use Rattle.std.proofs.lemmas.Nat.{mul-le}
use Rattle.line_store.specs.declared.Half.{Half}
use Rattle.line_store.specs.declared.Half.TheVariants.{First, Second}
use Rattle.page_pair.specs.Pair.{Pair, page_of, IsPair}
use Rattle.packed_pages.specs.declared.layout.Layout.{Layout}
use Rattle.packed_pages.specs.Layout.{IsLayout}

pub page-length : (p : Pair) (h : Half) → IsPair p → length (page_of p h) ≡ p.size
page-length p First is = is.first
page-length p Second is = is.second

pub page-small : (p : Pair) (h : Half) → IsPair p → length (page_of p h) ≤ 2 ^ 20
page-small p h is = omega (arith, page-length p h is, is.sized.1)

-- the bytes in front of a page can be counted
pub pages-fit : (l : Layout) (n : ℕ) → IsLayout l → n ≤ l.pages → n * l.size ≤ 2 ^ 60
pages-fit l n is few = mul-le n l.size (2 ^ 40) (2 ^ 20) (omega (arith, few, is.pages, is.few)) is.sized.1
