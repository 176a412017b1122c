-- Places reached from another one of the same page.
use Rattle.std.proofs.Common.{◌≡◌, ℕ, ◌+◌, ◌-◌, ◌<◌, ◌≤◌, List, length, Bool, true, false, Option, Some, None, IfSome, inl, inr, refl, sym, ap, subst, ◌∙◌, arith}
use Rattle.std.specs.Option.{option_map, option_or}
use Rattle.std.specs.Prelude.{unwrap_or}
use Rattle.std.proofs.lemmas.Bool.{cases_lt}
use Rattle.outside.specs.ScratchView.{ScratchView}
use Rattle.line_store.specs.declared.Half.{Half}
use Rattle.line_store.specs.Store.{line_at, NoneAlike, IsLastAlike}
use Rattle.page_pair.specs.Pair.{Pair, page_of}
use Rattle.page_pair.specs.Records.{stated, line_in}
use Rattle.page_pair.specs.Alike.{TellsAlike, FindsFirst}
use Rattle.packed_pages.specs.declared.layout.Layout.{Layout}
use Rattle.packed_pages.specs.declared.places.RecordPlace.{RecordPlace}
use Rattle.packed_pages.specs.declared.places.Places.{Places}
use Rattle.packed_pages.specs.Layout.{place_in, first_line, page_in, lines_told, IsPageOf}
use Rattle.packed_pages.specs.Held.{IsPage, IsLoaded, IsHeld, place_of}
use Rattle.packed_pages.specs.Steps.{IsWhole, Follows, IfNear, Misses, IfLast, IfReaches, moved}
use Rattle.packed_pages.proofs.Pages.{place-more}
use Rattle.packed_pages.proofs.HeldLemmas.{line-there}
use Rattle.packed_pages.proofs.Spans.{page-plain}

-- the place of a line that a half holds is that of a whole record
pub loaded-whole : (pair : Pair) (l : Layout) (v : ScratchView) (h : Half) (p : RecordPlace) → IsLoaded pair l v h p → IsWhole (page_of pair h) p
loaded-whole pair l v h p loaded = record { low = loaded.on.low; place = loaded.on.place; fits = loaded.fits }

pub follows-self : (page : List ℕ) (p : RecordPlace) → IsWhole page p → p.line < p.next → Follows page p p
follows-self page p whole lt = record { first = refl; next = refl; page_ = refl; order = omega arith; within = lt; whole = whole }

pub follows-more : (page : List ℕ) (p q r : RecordPlace) → Follows page p q → Follows page q r → Follows page p r
follows-more page p q r f g =
    let a : p.line ≤ q.line = f.order in
    let b : q.line ≤ r.line = g.order in
    record {
      first = g.first ∙ f.first;
      next = g.next ∙ f.next;
      page_ = g.page_ ∙ f.page_;
      order = omega arith;
      within = subst (λ n. r.line < n) f.next g.within;
      whole = g.whole;
    }

-- the place behind one
pub follows-next : (page : List ℕ) (p q : RecordPlace) → IsWhole page p → p.line + 1 < p.next → q.line ≡ p.line + 1 → q.first ≡ p.first → q.next ≡ p.next → q.page ≡ p.page → q.at ≡ p.at + 4 + stated page p.at → q.at + 4 + stated page q.at ≤ length page → Follows page p q
follows-next page p q whole lt line first next page_ at fits =
    let low : p.first ≤ p.line = whole.low in
    let n : q.line - q.first ≡ (p.line - p.first) + 1 = omega arith in
    record {
      first = first;
      next = next;
      page_ = page_;
      order = omega arith;
      within = omega arith;
      whole = record {
        low = omega arith;
        place = at ∙ ap (λ a. a + 4 + stated page a) whole.place ∙ sym (place-more (p.line - p.first) page) ∙ ap (λ i. place_in i page) (sym n);
        fits = fits;
      };
    }

-- a place that follows one that is held
pub follows-loaded : (pair : Pair) (l : Layout) (v : ScratchView) (h : Half) (p q : RecordPlace) → IsLoaded pair l v h p → Follows (page_of pair h) p q → q.line ≤ l.count → IsLoaded pair l v h q
follows-loaded pair l v h p q loaded f most =
    let some : 1 ≤ p.line = loaded.some in
    let order : p.line ≤ q.line = f.order in
    let fits : q.at + 4 + stated (page_of pair h) q.at ≤ length (page_of pair h) = f.whole.fits in
    record {
      on = record {
        low = f.whole.low;
        high = subst (λ n. q.line < n) (sym f.next) f.within;
        page = subst (λ n. n < l.pages) (sym f.page_) loaded.on.page;
        place = f.whole.place;
        within = omega arith;
        told = λ b told.
            let was = loaded.on.told b told in
            record {
              is = was.is ∙ ap (page_in l b) (sym f.page_);
              first = ap (first_line l b) f.page_ ∙ was.first ∙ sym f.first;
              next = ap (λ n. first_line l b (n + 1)) f.page_ ∙ was.next ∙ sym f.next;
            };
      };
      some = omega arith;
      most = most;
      fits = fits;
    }

-- a place near the one that is held
pub near-loaded : (pair : Pair) (l : Layout) (places : Places) (v : ScratchView) (h : Half) (o : Option RecordPlace) (k : ℕ) (q : RecordPlace) → IsHeld pair l places v → place_of places h ≡ o → IfNear (page_of pair h) o k (Some q) → k ≤ l.count → IsLoaded pair l v h q
near-loaded pair l places v h None k q held is near high = absurd near
near-loaded pair l places v h (Some p) k q held is near high = follows-loaded pair l v h p q (held.loaded h p is) near.0 (subst (λ n. n ≤ l.count) (sym near.1) high)

pub near-line : (page : List ℕ) (o : Option RecordPlace) (k : ℕ) (q : RecordPlace) → IfNear page o k (Some q) → q.line ≡ k
near-line page None k q near = absurd near
near-line page (Some p) k q near = near.1

-- a line from the one that is held on, on the page that is held
there : (pair : Pair) (l : Layout) (places : Places) (v : ScratchView) (h : Half) (p : RecordPlace) (page : List ℕ) (ls : List (List ℕ)) (i : ℕ) → IsHeld pair l places v → place_of places h ≡ Some p → page ≡ page_of pair h → p.line ≤ i → i < p.next → i ≤ l.count → lines_told l v.told ≡ Some ls → line_in page (place_in (i - p.first) page) ≡ line_at ls i
there pair l places v h p page ls i held is same low high most told =
    let loaded = held.loaded h p is in
    let some : 1 ≤ p.line = loaded.some in
    let first : p.first ≤ p.line = loaded.on.low in
    line-there l v p page i ls held.layout (held.packs (omega arith)) loaded.on.page (λ b is. subst (IsPage l b p) (sym same) (loaded.on.told b is)) (omega arith) most (omega arith) high told

tells : (lines : List (List ℕ)) (line page : List ℕ) (from at k : ℕ) (is : Bool) → line_in page at ≡ line_at lines k → NoneAlike lines line from k → TellsAlike page line at is → FindsFirst lines line from k is
tells lines line page from at k true same none t = (sym same ∙ t, none)
tells lines line page from at k false same none t = λ i low high. elim (cases_lt i k) [
  | inl lt ↦ none i low lt
  | inr ge ↦ let e : i ≡ k = omega arith in λ alike. t (same ∙ ap (line_at lines) (sym e) ∙ alike)
]

-- what a pass over a page says of the lines
pub finds-first : (pair : Pair) (l : Layout) (places : Places) (v : ScratchView) (h : Half) (p q : RecordPlace) (page : List ℕ) (lines : List (List ℕ)) (line : List ℕ) (k : ℕ) (is : Bool) → IsHeld pair l places v → place_of places h ≡ Some p → page ≡ page_of pair h → p.line ≡ k → Follows page p q → q.line ≤ l.count → lines_told l v.told ≡ Some lines → Misses page p.first line p.line q.line → TellsAlike page line q.at is → FindsFirst lines line k q.line is
finds-first pair l places v h p q page lines line k is held place same at f most told misses t =
    let within : q.line < p.next = f.within in
    let order : p.line ≤ q.line = f.order in
    let first : q.first ≡ p.first = f.first in
    tells lines line page k q.at q.line is
    (ap (line_in page) f.whole.place ∙ ap (λ n. line_in page (place_in (q.line - n) page)) f.first ∙ there pair l places v h p page lines q.line held place same f.order f.within most told)
    (λ i low high alike. misses i (omega arith) high (there pair l places v h p page lines i held place same (omega arith) (omega arith) (omega arith) told ∙ alike))
    t

-- what a pass over a page says of its last line that is alike
pub finds-last : (pair : Pair) (l : Layout) (places : Places) (v : ScratchView) (h : Half) (p q : RecordPlace) (page : List ℕ) (lines : List (List ℕ)) (line : List ℕ) (k : ℕ) (o : Option RecordPlace) → IsHeld pair l places v → place_of places h ≡ Some p → page ≡ page_of pair h → p.line ≡ k → Follows page p q → q.line ≤ l.count → lines_told l v.told ≡ Some lines → IfLast page p line (q.line + 1) o → IsLastAlike lines line k (q.line + 1) (option_map (λ x. x.line) o)
finds-last pair l places v h p q page lines line k None held place same at f most told last =
    let within : q.line < p.next = f.within in
    let order : p.line ≤ q.line = f.order in
    λ i low high alike. last i (omega arith) (omega arith) (there pair l places v h p page lines i held place same (omega arith) (omega arith) (omega arith) told ∙ alike)
finds-last pair l places v h p q page lines line k (Some r) held place same at f most told last =
    let within : q.line < p.next = f.within in
    let order : p.line ≤ q.line = f.order in
    let there_ : p.line ≤ r.line = last.follows.order in
    let before : r.line < q.line + 1 = last.before in (
      sym (ap (line_in page) last.follows.whole.place ∙ ap (λ n. line_in page (place_in (r.line - n) page)) last.follows.first ∙ there pair l places v h p page lines r.line held place same last.follows.order last.follows.within (omega arith) told) ∙ last.is,
      λ i low high alike. last.misses i low high (there pair l places v h p page lines i held place same (omega arith) (omega arith) (omega arith) told ∙ alike),
    )

-- a place that is reached from the one that is held
pub moved-loaded : (pair : Pair) (l : Layout) (places : Places) (v : ScratchView) (h : Half) (o : Option RecordPlace) (k at : ℕ) (x : RecordPlace) → IsHeld pair l places v → place_of places h ≡ o → IfReaches (page_of pair h) o k (Some at) → k ≤ l.count → option_map (moved k at) o ≡ Some x → IsLoaded pair l v h x
moved-loaded pair l places v h None k at x held is reaches most e = absurd reaches
moved-loaded pair l places v h (Some p) k at x held is reaches most e =
    let same : moved k at p ≡ x = cc in
    subst (IsLoaded pair l v h) same (follows-loaded pair l v h p (moved k at p) (held.loaded h p is) reaches most)

pub moved-line : (page : List ℕ) (o : Option RecordPlace) (k at : ℕ) → IfReaches page o k (Some at) → option_map (λ p. p.line) (option_map (moved k at) o) ≡ Some k
moved-line page None k at reaches = absurd reaches
moved-line page (Some p) k at reaches = refl

moved-number : (o : Option RecordPlace) (k at : ℕ) (x : RecordPlace) → option_map (moved k at) o ≡ Some x → x.line ≡ k
moved-number None k at x e = absurd cc
moved-number (Some p) k at x e = let same : moved k at p ≡ x = cc in sym (ap (λ q. q.line) same)

pub moved-page : (pair : Pair) (l : Layout) (places : Places) (v : ScratchView) (h : Half) (o : Option RecordPlace) (k at : ℕ) (x : RecordPlace) (b : List ℕ) → IsHeld pair l places v → place_of places h ≡ o → IfReaches (page_of pair h) o k (Some at) → 1 ≤ k → k ≤ l.count → option_map (moved k at) o ≡ Some x → v.told ≡ Some b → IsPageOf l b k x.page
moved-page pair l places v h o k at x b held is reaches low most e told =
    let on = (moved-loaded pair l places v h o k at x held is reaches most e).on in
    let page = on.told b told in
    subst (λ n. IsPageOf l b n x.page) (moved-number o k at x e)
    (page-plain l b x.line x.page x.first x.next held.layout (held.packs (omega arith) b told) on.page page.first page.next on.low on.high)

-- the line that is held itself, and the one behind it
pub near-self : (page : List ℕ) (held : Option RecordPlace) (p : RecordPlace) (k : ℕ) → held ≡ Some p → IsWhole page p → p.line < p.next → p.line ≡ k → IfNear page held k (Some p)
near-self page held p k is whole lt same = subst (λ h. IfNear page h k (Some p)) (sym is) (follows-self page p whole lt, same)

pub near-next : (page : List ℕ) (held : Option RecordPlace) (p : RecordPlace) (k : ℕ) (o : Option RecordPlace) → held ≡ Some p → k ≡ p.line + 1 → IfSome o (λ q. Follows page p q) → IfSome o (λ q. q.line ≡ p.line + 1) → IfNear page held k o
near-next page held p k None is line follows next = tt
near-next page held p k (Some q) is line follows next = subst (λ h. IfNear page h k (Some q)) (sym is) (follows, next ∙ sym line)

-- the line behind one, where its record is whole
pub reaches-next : (page : List ℕ) (p : RecordPlace) (k at : ℕ) → IsWhole page p → k ≡ p.line + 1 → k < p.next → at ≡ p.at + 4 + stated page p.at → at + 4 + stated page at ≤ length page → IfReaches page (Some p) k (Some at)
reaches-next page p k at whole line lt place fits = follows-next page p (moved k at p) whole (omega arith) line refl refl refl place fits

-- the place of a pass's last line that is alike, or else of the last one that it looked at
pub place-after : (page : List ℕ) (start last : RecordPlace) (line : List ℕ) (alike : Option RecordPlace) → Follows page start last → IfLast page start line (last.line + 1) alike → Follows page start (unwrap_or alike last) × ((unwrap_or alike last).line ≤ last.line)
place-after page start last line None follows is = (follows, omega arith)
place-after page start last line (Some p) follows is = (is.follows, let before : p.line < last.line + 1 = is.before in omega arith)

pub none-both : (lines : List (List ℕ)) (line : List ℕ) (from middle to : ℕ) → NoneAlike lines line from middle → NoneAlike lines line middle to → NoneAlike lines line from to
none-both lines line from middle to before behind = λ k low high. elim (cases_lt k middle) [
  | inl lt ↦ before k low lt
  | inr ge ↦ behind k ge high
]

-- of two lines that are alike, if there are any, the later one
pub later-alike : (lines : List (List ℕ)) (line : List ℕ) (from middle to : ℕ) (before behind : Option ℕ) → IsLastAlike lines line from middle before → IsLastAlike lines line middle to behind → IsLastAlike lines line from to (option_or behind before)
later-alike lines line from middle to before (Some k) a b = b
later-alike lines line from middle to None None a b = none-both lines line from middle to a b
later-alike lines line from middle to (Some k) None a b = (a.0, none-both lines line (k + 1) middle to a.1 b)

pub later-within : (from middle to : ℕ) (before behind : Option ℕ) → from ≤ middle → middle ≤ to → IfSome before (λ k. (from ≤ k) × (k < middle)) → IfSome behind (λ k. (middle ≤ k) × (k < to)) → IfSome (option_or behind before) (λ k. (from ≤ k) × (k < to))
later-within from middle to before (Some k) low high a b = (omega (arith, b.0), b.1)
later-within from middle to None None low high a b = tt
later-within from middle to (Some k) None low high a b = (a.0, omega (arith, a.1))

-- the last line that is alike, from the start's line on
pub last-between : (page : List ℕ) (start : RecordPlace) (line : List ℕ) (k to : ℕ) (alike : Option RecordPlace) → start.line ≡ k → IfLast page start line to alike → IfSome (option_map (λ (p : RecordPlace). p.line) alike) (λ w. (k ≤ w) × (w < to))
last-between page start line k to None e is = tt
last-between page start line k to (Some p) e is = (omega (arith, e, is.follows.order), is.before)
