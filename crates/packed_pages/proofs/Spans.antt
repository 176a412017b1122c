-- Spans of pages, halved.
use Rattle.std.proofs.Common.{◌≡◌, ℕ, zero, suc, ◌+◌, ◌-◌, ◌*◌, ◌<◌, ◌≤◌, ◌^◌, List, length, take, drop, true, sym, ap, subst, ◌∙◌, arith, length-drop}
use Rattle.std.proofs.Math.Nat.{two-pow-succ}
use Rattle.std.proofs.lemmas.List.{take_all}
use Rattle.std.proofs.lemmas.Nat.{mul-le}
use Rattle.std.specs.Int.{w64, from_le_bytes}
use Rattle.std.specs.Prelude.{nat_lt}
use Rattle.std.proofs.lemmas.Bool.Decides.{nat_tests}
use Rattle.outside.specs.ScratchView.{ScratchView}
use Rattle.packed_pages.specs.declared.layout.Layout.{Layout}
use Rattle.packed_pages.specs.Packs.{joined}
use Rattle.packed_pages.specs.Layout.{IsLayout, HasPacks, IsPageOf, first_line, pages_in}
use Rattle.packed_pages.specs.Held.{IsSpanTold, HasReadsLeft}
use Rattle.packed_pages.proofs.Pages.{pages-many, first-at, joined-up, bytes-length}

-- the bytes of an entry state the first line
pub entry-states : (l : Layout) (b : List ℕ) (j : ℕ) (bytes : List ℕ) → j < l.pages → take 8 bytes ≡ take 8 (drop (j * 8) b) → length bytes ≡ 8 → first_line l b j ≡ from_le_bytes w64 bytes
unfolding first_line
entry-states l b j bytes lt e len =
    let t : nat_lt j l.pages ≡ true = grind (arith, nat_tests) in
    rw t (ap (from_le_bytes w64) (sym e ∙ take_all 8 bytes (omega arith)))

-- there are bytes for each entry
pub entry-there : (l : Layout) (b : List ℕ) (j : ℕ) → HasPacks l b → j < l.pages → 8 ≤ length (drop (j * 8) b)
entry-there l b j h lt =
    let n : length b ≡ 8 * l.pages + l.pages * l.size = ap length h.is ∙ bytes-length l (pages_in l b) (pages-many l b) h.fits in
    let left : length (drop (j * 8) b) ≡ length b - j * 8 = length-drop (j * 8) b in
    omega arith

pub page-there : (l : Layout) (b : List ℕ) (j : ℕ) → HasPacks l b → j < l.pages → 8 * l.pages + j * l.size + l.size ≤ length b
page-there l b j h lt =
    let n : length b ≡ 8 * l.pages + l.pages * l.size = ap length h.is ∙ bytes-length l (pages_in l b) (pages-many l b) h.fits in
    let fits : (j + 1) * l.size ≤ l.pages * l.size = mul-le (j + 1) l.size l.pages l.size (omega arith) (omega arith) in
    let row : (j + 1) * l.size ≡ j * l.size + l.size = grind arith in
    omega arith

-- the first span has all pages
pub span-all : (l : Layout) (b : List ℕ) → IsLayout l → HasPacks l b → IsSpanTold l b (record { low = 0; high = l.pages; first = 1; next = l.count + 1 })
span-all l b is h = record {
  first = subst (λ x. first_line l x 0 ≡ 1) (sym h.is) (first-at l (pages_in l b) 0 (pages-many l b) h.counted is.few (omega arith));
  next =
      let all : length (joined (take l.pages (pages_in l b))) ≡ length (joined (pages_in l b)) = ap (λ q. length (joined q)) (take_all l.pages (pages_in l b) (let m : length (pages_in l b) ≡ l.pages = pages-many l b in omega arith)) in
      let m : length (pages_in l b) ≡ l.pages = pages-many l b in
      let c : length (joined (pages_in l b)) ≡ l.count = h.counted in
      subst (λ x. first_line l x l.pages ≡ l.count + 1) (sym h.is) (first-at l (pages_in l b) l.pages (pages-many l b) h.counted is.few (omega arith) ∙ omega arith);
}

-- a read more, and half as many pages
pub reads-half : (m n digits : ℕ) (u v w : ScratchView) → HasReadsLeft m digits u v → 2 ≤ m → 2 * n ≤ m + 1 → w.reads ≤ v.reads + 1 → HasReadsLeft n digits u w
reads-half m n digits u v w h low half one = from h.left h.enough h.reads where
  from : (left : ℕ) → m ≤ 2 ^ left → v.reads + left ≤ u.reads + digits → HasReadsLeft n digits u w
  from zero enough reads = absurd (let e : m ≤ 1 = enough in omega arith)
  from (suc left) enough reads =
      let e : 2 ^ suc left ≡ 2 ^ left + 2 ^ left = two-pow-succ left in
      record {
        left = left;
        enough = omega arith;
        reads = omega arith;
      }

-- a read more, which fails
pub reads-fail : (m digits : ℕ) (u v w : ScratchView) → HasReadsLeft m digits u v → 2 ≤ m → w.reads ≤ v.reads + 1 → w.reads ≤ u.reads + digits
reads-fail m digits u v w h low one = from h.left h.enough h.reads where
  from : (left : ℕ) → m ≤ 2 ^ left → v.reads + left ≤ u.reads + digits → w.reads ≤ u.reads + digits
  from zero enough reads = absurd (let e : m ≤ 1 = enough in omega arith)
  from (suc left) enough reads = omega arith

-- a page between whose first line and the next page's a line stands is the page of that line
pub page-plain : (l : Layout) (b : List ℕ) (k j first next : ℕ) → IsLayout l → HasPacks l b → j < l.pages → first_line l b j ≡ first → first_line l b (j + 1) ≡ next → first ≤ k → k < next → IsPageOf l b k j
page-plain l b k j first next is h lt e f low high = record {
  there = lt;
  first = omega arith;
  last = λ i after there.
      let m : length (pages_in l b) ≡ l.pages = pages-many l b in
      let a : first_line l b (j + 1) ≡ 1 + length (joined (take (j + 1) (pages_in l b))) = ap (λ x. first_line l x (j + 1)) h.is ∙ first-at l (pages_in l b) (j + 1) (pages-many l b) h.counted is.few (omega arith) in
      let c : first_line l b i ≡ 1 + length (joined (take i (pages_in l b))) = ap (λ x. first_line l x i) h.is ∙ first-at l (pages_in l b) i (pages-many l b) h.counted is.few (omega arith) in
      let d : length (joined (take (j + 1) (pages_in l b))) ≤ length (joined (take i (pages_in l b))) = joined-up (pages_in l b) (j + 1) i (omega arith) in
      omega arith;
}
