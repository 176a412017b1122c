-- Records reached from others of the same page.
use Rattle.std.proofs.Common.{◌≡◌, ◌≢◌, ℕ, ◌+◌, ◌-◌, ◌*◌, ◌/◌, ◌%◌, ◌<◌, ◌≤◌, List, length, take, drop, Bool, true, false, Option, None, Some, IfSome, inl, inr, refl, sym, ap, subst, ◌∙◌, arith}
use Rattle.std.proofs.lemmas.Bool.{cases_lt, cases_eq}
use Rattle.std.proofs.lemmas.Nat.{div-add-mod', mod-mul-add, div-mul-add}
use Rattle.std.proofs.Math.Nat.{mod-lt}
use Rattle.outside.specs.ScratchView.{ScratchView}
use Rattle.line_store.specs.declared.Half.{Half}
use Rattle.line_store.specs.declared.Half.TheVariants.{First, Second}
use Rattle.line_store.specs.declared.halves.Halves.{Halves}
use Rattle.line_store.specs.Halves.{half_of}
use Rattle.line_store.specs.Store.{line_at, NoneAlike}
use Rattle.page_pair.specs.Pair.{Pair, page_of, IsPair}
use Rattle.page_pair.specs.Records.{stated, line_in}
use Rattle.page_pair.specs.Alike.{TellsAlike, FindsFirst}
use Rattle.plan_b.specs.declared.layout.Layout.{Layout}
use Rattle.plan_b.specs.declared.spots.RecordOnPage.{RecordOnPage}
use Rattle.plan_b.specs.declared.spots.Spots.{Spots}
use Rattle.plan_b.specs.Layout.{IsLayout, page_number, place_on_page, lines_told}
use Rattle.plan_b.specs.Held.{HoldsPage, HoldsRecords, IsLoaded, IsHeld}
use Rattle.plan_b.specs.Spots.{spot_of, IsSpot, AreSpots, IsRecord, Follows, IfNear, Misses, FindsLast}
use Rattle.plan_b.proofs.Layouts.{some-fit, place-fits, row-fits-two}
use Rattle.plan_b.proofs.HeldLemmas.{line-there}

-- a number that is so much greater, where that stays below the divisor
pub mod-more : (a d q : ℕ) → a % q + d < q → (a + d) % q ≡ a % q + d
mod-more a d q lt =
    let e : a / q * q + a % q ≡ a = div-add-mod' a q in
    let f : a + d ≡ a / q * q + (a % q + d) = omega arith in
    ap (λ n. n % q) f ∙ mod-mul-add (a / q) q (a % q + d) lt

pub div-more : (a d q : ℕ) → a % q + d < q → (a + d) / q ≡ a / q
div-more a d q lt =
    let e : a / q * q + a % q ≡ a = div-add-mod' a q in
    let f : a + d ≡ a / q * q + (a % q + d) = omega arith in
    ap (λ n. n / q) f ∙ div-mul-add (a / q) q (a % q + d) lt

pub at-spot : (l : Layout) (k : ℕ) (s : RecordOnPage) → IsSpot l k s → s.at ≡ place_on_page l (k - 1)
at-spot l k s spot = spot.place ∙ ap (λ n. n * l.width) spot.index_

-- what isn't among lines up to one, nor among those from it on
pub none-both : (lines : List (List ℕ)) (line : List ℕ) (from middle to : ℕ) → NoneAlike lines line from middle → NoneAlike lines line middle to → NoneAlike lines line from to
none-both lines line from middle to before behind = λ k low high. elim (cases_lt k middle) [
  | inl lt ↦ before k low lt
  | inr ge ↦ behind k ge high
]

first-tells : (lines : List (List ℕ)) (line page : List ℕ) (at from k : ℕ) (is : Bool) → line_in page at ≡ line_at lines k → NoneAlike lines line from k → TellsAlike page line at is → FindsFirst lines line from k is
first-tells lines line page at from k true same none t = (sym same ∙ t, none)
first-tells lines line page at from k false same none t = λ i low high. elim (cases_lt i k) [
  | inl lt ↦ none i low lt
  | inr ge ↦ let e : i ≡ k = omega arith in λ alike. t (same ∙ ap (line_at lines) (sym e) ∙ alike)
]

last-tells : (lines : List (List ℕ)) (line page : List ℕ) (at to k : ℕ) (is : Bool) → line_in page at ≡ line_at lines k → NoneAlike lines line (k + 1) to → TellsAlike page line at is → FindsLast lines line to k is
last-tells lines line page at to k true same none t = (sym same ∙ t, none)
last-tells lines line page at to k false same none t = λ i low high. elim (cases_lt k i) [
  | inl lt ↦ none i (omega arith) high
  | inr ge ↦ let e : i ≡ k = omega arith in λ alike. t (same ∙ ap (line_at lines) (sym e) ∙ alike)
]

-- the record behind one on its page
pub follows-next : (page : List ℕ) (l : Layout) (k : ℕ) (s t : RecordOnPage) → IsLayout l → IsRecord page l k s → s.index + 1 < l.per_page → t.index ≡ s.index + 1 → t.at ≡ s.at + l.width → stated page t.at + 4 ≤ l.width → Follows page l k (k + 1) t
follows-next page l k s t is record_ lt index at fits =
    let low : 1 ≤ k = record_.low in
    let was : s.index ≡ (k - 1) % l.per_page = record_.spot.index_ in
    let place : s.at ≡ s.index * l.width = record_.spot.place in
    let n : k + 1 - 1 ≡ k - 1 + 1 = omega arith in
    let less : (k - 1) % l.per_page + 1 < l.per_page = omega arith in
    let more : (k - 1 + 1) % l.per_page ≡ (k - 1) % l.per_page + 1 = mod-more (k - 1) 1 l.per_page less in
    let e : t.at ≡ s.index * l.width + l.width = omega arith in
    let f : (s.index + 1) * l.width ≡ s.index * l.width + l.width = omega arith in
    record {
      page_ = ap (λ i. i / l.per_page) n ∙ div-more (k - 1) 1 l.per_page less;
      is = record {
        low = omega arith;
        spot = record {
          index_ = index ∙ ap (λ i. i + 1) was ∙ sym more ∙ ap (λ i. i % l.per_page) (sym n);
          place = e ∙ sym f ∙ ap (λ i. i * l.width) (sym index);
        };
        fits = fits;
      };
    }

-- a record that isn't the first of its page
pub not-first : (page : List ℕ) (l : Layout) (k : ℕ) (s : RecordOnPage) → IsRecord page l k s → 0 < s.index → l.width ≤ s.at
not-first page l k s record_ some =
    let place : s.at ≡ s.index * l.width = record_.spot.place in
    let e : s.index ≡ s.index - 1 + 1 = omega arith in
    let f : s.index * l.width ≡ (s.index - 1 + 1) * l.width = ap (λ n. n * l.width) e in
    let g : (s.index - 1 + 1) * l.width ≡ (s.index - 1) * l.width + l.width = omega arith in
    omega arith

-- the record before one on its page
pub follows-before : (page : List ℕ) (l : Layout) (k : ℕ) (s t : RecordOnPage) → IsLayout l → IsRecord page l k s → 0 < s.index → t.index ≡ s.index - 1 → t.at ≡ s.at - l.width → stated page t.at + 4 ≤ l.width → Follows page l k (k - 1) t
follows-before page l k s t is record_ some index at fits =
    let low : 1 ≤ k = record_.low in
    let was : s.index ≡ (k - 1) % l.per_page = record_.spot.index_ in
    let place : s.at ≡ s.index * l.width = record_.spot.place in
    let many : 0 < l.per_page = some-fit l is in
    let lt : (k - 1) % l.per_page < l.per_page = mod-lt (k - 1) (some-fit l is) in
    let parts : (k - 1) / l.per_page * l.per_page + (k - 1) % l.per_page ≡ k - 1 = div-add-mod' (k - 1) l.per_page in
    let n : k - 1 - 1 ≡ (k - 1) / l.per_page * l.per_page + ((k - 1) % l.per_page - 1) = omega arith in
    let more : ((k - 1) / l.per_page * l.per_page + ((k - 1) % l.per_page - 1)) % l.per_page ≡ (k - 1) % l.per_page - 1 = mod-mul-add ((k - 1) / l.per_page) l.per_page ((k - 1) % l.per_page - 1) (omega arith) in
    let e : s.index ≡ s.index - 1 + 1 = omega arith in
    let f : s.index * l.width ≡ (s.index - 1 + 1) * l.width = ap (λ n. n * l.width) e in
    let h : (s.index - 1 + 1) * l.width ≡ (s.index - 1) * l.width + l.width = omega arith in
    let i : t.at ≡ (s.index - 1) * l.width = omega arith in
    record {
      page_ = ap (λ i. i / l.per_page) n ∙ div-mul-add ((k - 1) / l.per_page) l.per_page ((k - 1) % l.per_page - 1) (omega arith);
      is = record {
        low = omega arith;
        spot = record {
          index_ = index ∙ ap (λ i. i - 1) was ∙ sym more ∙ ap (λ i. i % l.per_page) (sym n);
          place = i ∙ ap (λ i. i * l.width) (sym index);
        };
        fits = fits;
      };
    }

pub follows-self : (page : List ℕ) (l : Layout) (k : ℕ) (s : RecordOnPage) → IsRecord page l k s → Follows page l k k s
follows-self page l k s record_ = record { page_ = refl; is = record_ }

pub follows-more : (page : List ℕ) (l : Layout) (i j k : ℕ) (s t : RecordOnPage) → Follows page l i j s → Follows page l j k t → Follows page l i k t
follows-more page l i j k s t f g = record { page_ = g.page_ ∙ f.page_; is = g.is }

-- a line between two of one page is on it too
pub between : (l : Layout) (k i j : ℕ) → IsLayout l → 1 ≤ k → k ≤ i → i ≤ j → page_number l (j - 1) ≡ page_number l (k - 1) → page_number l (i - 1) ≡ page_number l (k - 1)
between l k i j is low le most same =
    let lt : (j - 1) % l.per_page < l.per_page = mod-lt (j - 1) (some-fit l is) in
    let a : (k - 1) / l.per_page * l.per_page + (k - 1) % l.per_page ≡ k - 1 = div-add-mod' (k - 1) l.per_page in
    let b : (j - 1) / l.per_page * l.per_page + (j - 1) % l.per_page ≡ j - 1 = div-add-mod' (j - 1) l.per_page in
    let c : (j - 1) / l.per_page * l.per_page ≡ (k - 1) / l.per_page * l.per_page = ap (λ n. n * l.per_page) same in
    let n : i - 1 ≡ k - 1 + (i - k) = omega arith in
    ap (λ n. n / l.per_page) n ∙ div-more (k - 1) (i - k) l.per_page (omega arith)

pub next-fits : (page : List ℕ) (l : Layout) (k : ℕ) (s t : RecordOnPage) (o : Option RecordOnPage) → IsLayout l → IsRecord page l k s → s.index + 1 < l.per_page → t.index ≡ s.index + 1 → t.at ≡ s.at + l.width → IfSome o (λ r. (r ≡ t) × (stated page t.at + 4 ≤ l.width)) → IfSome o (λ r. Follows page l k (k + 1) r)
next-fits page l k s t None is record_ lt index at h = tt
next-fits page l k s t (Some r) is record_ lt index at h = subst (Follows page l k (k + 1)) (sym h.0) (follows-next page l k s t is record_ lt index at h.1)

pub before-fits : (page : List ℕ) (l : Layout) (k : ℕ) (s t : RecordOnPage) (o : Option RecordOnPage) → IsLayout l → IsRecord page l k s → 0 < s.index → t.index ≡ s.index - 1 → t.at ≡ s.at - l.width → IfSome o (λ r. (r ≡ t) × (stated page t.at + 4 ≤ l.width)) → IfSome o (λ r. Follows page l k (k - 1) r)
before-fits page l k s t None is record_ some index at h = tt
before-fits page l k s t (Some r) is record_ some index at h = subst (Follows page l k (k - 1)) (sym h.0) (follows-before page l k s t is record_ some index at h.1)

-- the line of a record on the page that a half holds
there : (pair : Pair) (l : Layout) (v : ScratchView) (h : Half) (k i : ℕ) (page : List ℕ) (ls : List (List ℕ)) → IsLayout l → HoldsRecords l v → HoldsPage pair l v h (page_number l (k - 1)) → page ≡ page_of pair h → page_number l (i - 1) ≡ page_number l (k - 1) → 1 ≤ i → i ≤ l.count → lines_told l v.told ≡ Some ls → line_in page (place_on_page l (i - 1)) ≡ line_at ls i
there pair l v h k i page ls is records holds same on low high told =
    ap (λ p. line_in p (place_on_page l (i - 1))) same
    ∙ line-there pair l v h i ls is records (λ b seen. holds b seen ∙ ap (λ n. take l.size (drop (n * l.size) b)) (sym on)) low high told

-- a record that is reached from the one that a half holds
pub follows-loaded : (pair : Pair) (l : Layout) (v : ScratchView) (h : Half) (k j : ℕ) (s : RecordOnPage) → IsLoaded pair l v h k → Follows (page_of pair h) l k j s → j ≤ l.count → IsLoaded pair l v h j
follows-loaded pair l v h k j s loaded f most = record {
  low = f.is.low;
  high = most;
  fits = subst (λ n. stated (page_of pair h) n + 4 ≤ l.width) (at-spot l j s f.is.spot) f.is.fits;
  page = λ b seen. loaded.page b seen ∙ ap (λ n. take l.size (drop (n * l.size) b)) (sym f.page_);
}

-- the record of the line that a half holds
pub held-record : (pair : Pair) (l : Layout) (v : ScratchView) (h : Half) (k : ℕ) (s : RecordOnPage) → IsLoaded pair l v h k → IsSpot l k s → IsRecord (page_of pair h) l k s
held-record pair l v h k s loaded spot = record {
  low = loaded.low;
  spot = spot;
  fits = subst (λ n. stated (page_of pair h) n + 4 ≤ l.width) (sym (at-spot l k s spot)) loaded.fits;
}

pub near-loaded : (pair : Pair) (l : Layout) (halves : Halves) (v : ScratchView) (h : Half) (o : Option ℕ) (k : ℕ) (s : RecordOnPage) → IsHeld pair l halves v → half_of halves h ≡ o → IfNear (page_of pair h) l o k (Some s) → k ≤ l.count → IsLoaded pair l v h k
near-loaded pair l halves v h None k s held is near most = absurd near
near-loaded pair l halves v h (Some j) k s held is near most = follows-loaded pair l v h j k s (held.loaded h j is) near most

pub near-spot : (page : List ℕ) (l : Layout) (o : Option ℕ) (k : ℕ) (s : RecordOnPage) → IfNear page l o k (Some s) → IsSpot l k s
near-spot page l None k s near = absurd near
near-spot page l (Some j) k s near = near.is.spot

-- spots and halves where one half changes
pub spots-more : (l : Layout) (hs ht : Halves) (ss st : Spots) (half : Half) → AreSpots l hs ss → ((h : Half) → h ≢ half → half_of ht h ≡ half_of hs h) → ((h : Half) → h ≢ half → spot_of st h ≡ spot_of ss h) → ((k : ℕ) → half_of ht half ≡ Some k → IsSpot l k (spot_of st half)) → AreSpots l ht st
spots-more l hs ht ss st half are halves spots here = λ h k is. each half h here (λ h k ne is. subst (IsSpot l k) (sym (spots h ne)) (are h k (sym (halves h ne) ∙ is))) k is where
  each : (g h : Half) → ((k : ℕ) → half_of ht g ≡ Some k → IsSpot l k (spot_of st g)) → ((h : Half) (k : ℕ) → h ≢ g → half_of ht h ≡ Some k → IsSpot l k (spot_of st h)) → (k : ℕ) → half_of ht h ≡ Some k → IsSpot l k (spot_of st h)
  each First First own others k is = own k is
  each First Second own others k is = others Second k (λ (e : Second ≡ First). (cc)) is
  each Second First own others k is = others First k (λ (e : First ≡ Second). (cc)) is
  each Second Second own others k is = own k is

-- what a pass over a page says of the lines
pub finds-first : (pair : Pair) (l : Layout) (v : ScratchView) (h : Half) (k j : ℕ) (s : RecordOnPage) (page : List ℕ) (lines : List (List ℕ)) (line : List ℕ) (is : Bool) → IsLayout l → HoldsRecords l v → IsLoaded pair l v h k → page ≡ page_of pair h → Follows page l k j s → k ≤ j → j ≤ l.count → lines_told l v.told ≡ Some lines → Misses page l line k j → TellsAlike page line s.at is → FindsFirst lines line k j is
finds-first pair l v h k j s page lines line is layout records loaded same f order most told misses tells =
    let low : 1 ≤ k = loaded.low in
    first-tells lines line page s.at k j is
    (ap (line_in page) (at-spot l j s f.is.spot) ∙ there pair l v h k j page lines layout records loaded.page same f.page_ f.is.low most told)
    (λ i from to alike. misses i from to (there pair l v h k i page lines layout records loaded.page same (between l k i j layout low from (omega arith) f.page_) (omega arith) (omega arith) told ∙ alike))
    tells

pub finds-last : (pair : Pair) (l : Layout) (v : ScratchView) (h : Half) (k j to : ℕ) (s : RecordOnPage) (page : List ℕ) (lines : List (List ℕ)) (line : List ℕ) (is : Bool) → IsLayout l → HoldsRecords l v → IsLoaded pair l v h k → page ≡ page_of pair h → Follows page l k j s → j ≤ k → to ≡ k + 1 → lines_told l v.told ≡ Some lines → Misses page l line (j + 1) (k + 1) → TellsAlike page line s.at is → FindsLast lines line to j is
finds-last pair l v h k j to s page lines line is layout records loaded same f order end told misses tells =
    let low : 1 ≤ j = f.is.low in
    let most : k ≤ l.count = loaded.high in
    last-tells lines line page s.at to j is
    (ap (line_in page) (at-spot l j s f.is.spot) ∙ there pair l v h k j page lines layout records loaded.page same f.page_ f.is.low (omega arith) told)
    (λ i from below alike. misses i from (omega arith) (there pair l v h k i page lines layout records loaded.page same (between l j i k layout low (omega arith) (omega arith) (sym f.page_) ∙ f.page_) (omega arith) (omega arith) told ∙ alike))
    tells

-- a record lies on its page
pub record-within : (page : List ℕ) (l : Layout) (k : ℕ) (s : RecordOnPage) → IsLayout l → IsRecord page l k s → length page ≡ l.size → s.at + 4 + stated page s.at ≤ length page
record-within page l k s is record_ size =
    let within : place_on_page l (k - 1) + l.width ≤ l.size = place-fits l (k - 1) is in
    let place : s.at ≡ place_on_page l (k - 1) = at-spot l k s record_.spot in
    let fits : stated page s.at + 4 ≤ l.width = record_.fits in
    omega arith

pub page-length : (p : Pair) (h : Half) → IsPair p → length (page_of p h) ≡ p.size
page-length p First is = is.first
page-length p Second is = is.second

-- a record stands whole on its page, and so does the one behind it
pub spot-fits : (l : Layout) (k : ℕ) (s : RecordOnPage) → IsLayout l → IsSpot l k s → s.at + l.width ≤ l.size
spot-fits l k s is spot = omega (arith, at-spot l k s spot, place-fits l (k - 1) is)

pub next-spot-fits : (l : Layout) (k : ℕ) (s : RecordOnPage) → IsLayout l → IsSpot l k s → s.index + 1 < l.per_page → (s.at + l.width) + l.width ≤ l.size
next-spot-fits l k s is spot lt = omega (arith, spot.place, row-fits-two l s.index is lt)

-- one more record that isn't this line, behind or before the others
pub misses-more : (page : List ℕ) (l : Layout) (line : List ℕ) (from now : ℕ) (s : RecordOnPage) → IsSpot l now s → line_in page s.at ≢ line → Misses page l line from now → Misses page l line from (now + 1)
misses-more page l line from now s spot other was i low high e = elim (cases_eq i now) [
  | inl same ↦ other (ap (line_in page) (at-spot l now s spot ∙ ap (λ k. place_on_page l (k - 1)) (sym same)) ∙ e)
  | inr ne ↦ was i low (omega (arith, high, ne)) e
]

pub misses-back : (page : List ℕ) (l : Layout) (line : List ℕ) (now to : ℕ) (s : RecordOnPage) → IsSpot l now s → line_in page s.at ≢ line → 1 ≤ now → Misses page l line (now + 1) to → Misses page l line (now - 1 + 1) to
misses-back page l line now to s spot other some was i low high e = elim (cases_eq i now) [
  | inl same ↦ other (ap (line_in page) (at-spot l now s spot ∙ ap (λ k. place_on_page l (k - 1)) (sym same)) ∙ e)
  | inr ne ↦ was i (omega (arith, low, ne, some)) high e
]
