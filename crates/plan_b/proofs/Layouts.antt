-- Places of records on a page.
use Rattle.std.proofs.Common.{◌≡◌, ℕ, ◌+◌, ◌*◌, ◌/◌, ◌%◌, ◌^◌, ◌<◌, ◌≤◌, arith}
use Rattle.std.proofs.Math.Nat.{div-mul-le_self, mod-lt}
use Rattle.std.proofs.lemmas.Nat.{mul-le, le-div}
use Rattle.plan_b.specs.declared.layout.Layout.{Layout}
use Rattle.plan_b.specs.Layout.{IsLayout, page_number, place_on_page}

pub rows-fit : (l : Layout) (n : ℕ) → IsLayout l → n ≤ l.per_page → n * l.width ≤ l.size
rows-fit l n is le =
    let e : l.per_page ≡ l.size / l.width = is.per_page in
    let a : n * l.width ≤ (l.size / l.width) * l.width = mul-le n l.width (l.size / l.width) l.width (omega arith) (omega arith) in
    let b : (l.size / l.width) * l.width ≤ l.size = div-mul-le_self l.size l.width in
    omega arith

pub some-fit : (l : Layout) → IsLayout l → 0 < l.per_page
some-fit l is =
    let e : l.per_page ≡ l.size / l.width = is.per_page in
    let one : 1 * l.width ≤ l.size = (let h : l.width ≤ l.size = is.high in omega arith) in
    let low : 4 ≤ l.width = is.low in
    let a : 1 ≤ l.size / l.width = le-div 1 l.size l.width (omega arith) one in
    omega arith

-- a record stands whole on its page
pub place-fits : (l : Layout) (k : ℕ) → IsLayout l → place_on_page l k + l.width ≤ l.size
place-fits l k is =
    let lt : k % l.per_page < l.per_page = mod-lt k (some-fit l is) in
    let fit : (k % l.per_page + 1) * l.width ≤ l.size = rows-fit l (k % l.per_page + 1) is (omega arith) in
    let e : (k % l.per_page + 1) * l.width ≡ k % l.per_page * l.width + l.width = omega arith in
    omega arith

-- with one more behind it, or two
pub row-fits : (l : Layout) (n : ℕ) → IsLayout l → n < l.per_page → n * l.width + l.width ≤ l.size
row-fits l n is lt = let fit : (n + 1) * l.width ≤ l.size = rows-fit l (n + 1) is (omega (arith, lt)) in omega (arith, fit)

pub row-fits-two : (l : Layout) (n : ℕ) → IsLayout l → n + 1 < l.per_page → (n * l.width + l.width) + l.width ≤ l.size
row-fits-two l n is lt = let fit : (n + 2) * l.width ≤ l.size = rows-fit l (n + 2) is (omega (arith, lt)) in omega (arith, fit)

-- so many pages hold as many records at least, and their bytes can be counted
pub pages-few : (l : Layout) (n r : ℕ) → IsLayout l → n * l.per_page + r ≤ 2 ^ 40 → n ≤ 2 ^ 40
pages-few l n r is few = let le : n * 1 ≤ n * l.per_page = mul-le n 1 n l.per_page (omega arith) (omega (arith, some-fit l is)) in omega (arith, le, few)

pub pages-fit : (l : Layout) (n : ℕ) → IsLayout l → n ≤ 2 ^ 40 → n * l.size ≤ 2 ^ 60
pages-fit l n is few = mul-le n l.size (2 ^ 40) (2 ^ 20) few is.sized.1

pub number-fits : (l : Layout) (k : ℕ) → IsLayout l → k < l.count → page_number l k * l.size + l.size < 2 ^ 63
number-fits l k is lt =
    let all : page_number l k * l.per_page ≤ k = div-mul-le_self k l.per_page in
    let few : page_number l k ≤ 2 ^ 40 = pages-few l (page_number l k) 0 is (omega (arith, all, lt, is.few)) in
    omega (arith, pages-fit l (page_number l k) is few, is.sized.1)
