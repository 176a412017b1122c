-- Pages, scratch and places over a call.
use Rattle.std.proofs.Common.{◌≡◌, ◌≢◌, ℕ, ◌+◌, ◌-◌, ◌<◌, ◌≤◌, List, [], ◌++◌, length, get_or, take, replicate, Option, None, Some, refl, sym, ap, subst, ◌∙◌, arith, inl, inr}
use Rattle.std.specs.Option.{option_map}
use Rattle.std.proofs.lemmas.List.FromFn.{fill_by_all}
use Rattle.std.proofs.lemmas.List.Concat.{get_or-flat_map}
use Rattle.std.proofs.lemmas.Option.{none-some}
use Rattle.line_store.specs.Store.{line_at, HasCause}
use Rattle.line_store.specs.Taking.{IsEmpty}
use Rattle.line_store.specs.declared.fault.LineFault.{LineFault}
use Rattle.line_store.specs.declared.fault.LineFault.TheVariants.{Scratch, Disagree}
use Rattle.outside.specs.ScratchView.{ScratchView}
use Rattle.line_store.specs.declared.Half.{Half}
use Rattle.line_store.specs.declared.Half.TheVariants.{First, Second}
use Rattle.page_pair.specs.Pair.{Pair, page_of}
use Rattle.page_pair.specs.Records.{stated, line_in}
use Rattle.page_pair.specs.Held.{HasPageCause}
use Rattle.page_pair.proofs.Told.{mapped-lines}
use Rattle.packed_pages.specs.declared.layout.Layout.{Layout}
use Rattle.packed_pages.specs.declared.marks.PageMarks.{PageMarks}
use Rattle.packed_pages.specs.declared.marks.Marks.{Marks}
use Rattle.packed_pages.specs.declared.places.RecordPlace.{RecordPlace}
use Rattle.packed_pages.specs.declared.places.Places.{Places}
use Rattle.packed_pages.specs.Packs.{records, joined, page_with, bytes_of}
use Rattle.packed_pages.specs.Layout.{IsLayout, HasPacks, first_line, page_in, place_in, lines_on, pages_in, decoded, lines_told, told-none, told-some}
use Rattle.packed_pages.specs.Marks.{AreMarks, AreMarked, marks_of}
use Rattle.packed_pages.specs.Held.{seen_of, place_of, line_held, IsPage, HoldsPacks, IsOnPage, IsLoaded, IsHeld, Overruns, IsRecordFault, IfStart}
use Rattle.packed_pages.proofs.Pages.{pages-many, first-at, page-at, page-length, joined-more, place-at, stated-at, line-in-at, record-within}

-- where the page of a place stands among the pages of the scratch
pub record Stands (l : Layout) (ps : List (List (List ℕ))) (p : RecordPlace) (page : List ℕ) : Type 0 where
  pub there : p.page < length ps
  pub is : page ≡ page_with l.size (get_or ps p.page [])
  pub first : p.first ≡ 1 + length (joined (take p.page ps))
  pub next : p.next ≡ p.first + length (get_or ps p.page [])

stands : (l : Layout) (b : List ℕ) (p : RecordPlace) (page : List ℕ) → IsLayout l → HasPacks l b → p.page < l.pages → IsPage l b p page → Stands l (pages_in l b) p page
stands l b p page is h lt at =
    let m : length (pages_in l b) ≡ l.pages = pages-many l b in
    let a : first_line l b p.page ≡ 1 + length (joined (take p.page (pages_in l b))) = ap (λ x. first_line l x p.page) h.is ∙ first-at l (pages_in l b) p.page (pages-many l b) h.counted is.few (omega arith) in
    let c : first_line l b (p.page + 1) ≡ 1 + length (joined (take (p.page + 1) (pages_in l b))) = ap (λ x. first_line l x (p.page + 1)) h.is ∙ first-at l (pages_in l b) (p.page + 1) (pages-many l b) h.counted is.few (omega arith) in
    let d : length (joined (take (p.page + 1) (pages_in l b))) ≡ length (joined (take p.page (pages_in l b))) + length (get_or (pages_in l b) p.page []) = joined-more (pages_in l b) p.page (omega arith) in
    let e : first_line l b p.page ≡ p.first = at.first in
    let f : first_line l b (p.page + 1) ≡ p.next = at.next in
    record {
      there = omega arith;
      is = at.is ∙ ap (λ x. page_in l x p.page) h.is ∙ page-at l (pages_in l b) p.page (pages-many l b) h.fits (omega arith);
      first = omega arith;
      next = omega arith;
    }

-- a record of a page on that page
on-page : (size : ℕ) (ls : List (List ℕ)) (i : ℕ) → i < length ls → length (records ls) ≤ size → size ≤ 1048576 → (line_in (page_with size ls) (place_in i (page_with size ls)) ≡ get_or ls i []) × (place_in i (page_with size ls) + 4 + stated (page_with size ls) (place_in i (page_with size ls)) ≤ size)
unfolding page_with
on-page size ls i lt fits small =
    let place : place_in i (records ls ++ replicate (size - length (records ls)) 0) ≡ length (records (take i ls)) = place-at ls (replicate (size - length (records ls)) 0) i (omega arith) (omega arith) in
    let n : stated (records ls ++ replicate (size - length (records ls)) 0) (place_in i (records ls ++ replicate (size - length (records ls)) 0)) ≡ length (get_or ls i []) = ap (stated (records ls ++ replicate (size - length (records ls)) 0)) place ∙ stated-at ls (replicate (size - length (records ls)) 0) i lt (omega arith) in
    let within : length (records (take i ls)) + (4 + length (get_or ls i [])) ≤ length (records ls) = record-within ls i lt in (
      ap (line_in (records ls ++ replicate (size - length (records ls)) 0)) place ∙ line-in-at ls (replicate (size - length (records ls)) 0) i lt (omega arith),
      omega arith,
    )

-- no record of a page reaches past its end
pub no-overrun : (l : Layout) (b : List ℕ) (p : RecordPlace) (page : List ℕ) (k : ℕ) → IsLayout l → HasPacks l b → p.page < l.pages → IsPage l b p page → p.first ≤ k → k < p.next → Overruns (k - p.first) page → ⊥
no-overrun l b p page k is h lt at low high over =
    let s = stands l b p page is h lt at in
    let next : p.next ≡ p.first + length (get_or (pages_in l b) p.page []) = s.next in
    let i : over.before ≤ k - p.first = over.most in
    let fits : length (records (get_or (pages_in l b) p.page [])) ≤ l.size = h.fits p.page s.there in
    let record_ = on-page l.size (get_or (pages_in l b) p.page []) over.before (omega arith) fits is.sized.1 in
    let past : length page < place_in over.before page + 4 + stated page (place_in over.before page) = over.over in
    let long : length page ≡ l.size = ap length s.is ∙ page-length l.size (get_or (pages_in l b) p.page []) fits in
    let past-2 : length page < place_in over.before (page_with l.size (get_or (pages_in l b) p.page [])) + 4 + stated (page_with l.size (get_or (pages_in l b) p.page [])) (place_in over.before (page_with l.size (get_or (pages_in l b) p.page []))) = subst (λ q. length page < place_in over.before q + 4 + stated q (place_in over.before q)) s.is past in
    omega (arith, record_.1)

-- pages of a scratch are those that it was made of
lines-at : (l : Layout) (b : List ℕ) (ps : List (List (List ℕ))) (j : ℕ) → IsLayout l → b ≡ bytes_of l.size ps → length ps ≡ l.pages → length (joined ps) ≡ l.count → ((i : ℕ) → i < length ps → length (records (get_or ps i [])) ≤ l.size) → j < length ps → lines_on l b j ≡ get_or ps j []
unfolding lines_on
lines-at l b ps j is made m counted fits lt =
    let a : first_line l b j ≡ 1 + length (joined (take j ps)) = ap (λ x. first_line l x j) made ∙ first-at l ps j m counted is.few (omega arith) in
    let c : first_line l b (j + 1) ≡ 1 + length (joined (take (j + 1) ps)) = ap (λ x. first_line l x (j + 1)) made ∙ first-at l ps (j + 1) m counted is.few (omega arith) in
    let d : length (joined (take (j + 1) ps)) ≡ length (joined (take j ps)) + length (get_or ps j []) = joined-more ps j lt in
    let page : page_in l b j ≡ page_with l.size (get_or ps j []) = ap (λ x. page_in l x j) made ∙ page-at l ps j m fits lt in
    sym (fill_by_all (λ i. line_in (page_in l b j) (place_in i (page_in l b j))) (get_or ps j []) (first_line l b (j + 1) - first_line l b j) [] (omega arith)
    (λ i below. sym (ap (λ q. line_in q (place_in i q)) page ∙ (on-page l.size (get_or ps j []) i (omega arith) (fits j lt) is.sized.1).0)))

pub pages-are : (l : Layout) (b : List ℕ) (ps : List (List (List ℕ))) → IsLayout l → b ≡ bytes_of l.size ps → length ps ≡ l.pages → length (joined ps) ≡ l.count → ((i : ℕ) → i < length ps → length (records (get_or ps i [])) ≤ l.size) → pages_in l b ≡ ps
unfolding pages_in
pages-are l b ps is made m counted fits =
    sym (fill_by_all (lines_on l b) ps l.pages [] m (λ j lt. sym (lines-at l b ps j is made m counted fits (omega arith))))

pub packs-made : (l : Layout) (b : List ℕ) (ps : List (List (List ℕ))) → IsLayout l → b ≡ bytes_of l.size ps → length ps ≡ l.pages → length (joined ps) ≡ l.count → ((i : ℕ) → i < length ps → length (records (get_or ps i [])) ≤ l.size) → HasPacks l b
packs-made l b ps is made m counted fits =
    let e : pages_in l b ≡ ps = pages-are l b ps is made m counted fits in
    record {
      is = made ∙ ap (bytes_of l.size) (sym e);
      counted = ap (λ x. length (joined x)) e ∙ counted;
      fits = subst (λ x. (i : ℕ) → i < length x → length (records (get_or x i [])) ≤ l.size) (sym e) fits;
    }

pub packs-decoded : (l : Layout) (b : List ℕ) → HasPacks l b → decoded l b ≡ joined (pages_in l b)
unfolding decoded
packs-decoded l b h = sym (fill_by_all (λ i. get_or (joined (pages_in l b)) i []) (joined (pages_in l b)) l.count [] h.counted (λ i lt. refl))

-- a line of the page that a half holds
pub line-there : (l : Layout) (v : ScratchView) (p : RecordPlace) (page : List ℕ) (k : ℕ) (ls : List (List ℕ)) → IsLayout l → HoldsPacks l v → p.page < l.pages → ((b : List ℕ) → v.told ≡ Some b → IsPage l b p page) → 1 ≤ k → k ≤ l.count → p.first ≤ k → k < p.next → lines_told l v.told ≡ Some ls → line_in page (place_in (k - p.first) page) ≡ line_at ls k
line-there l v p page k ls is packs lt at some most low high told =
    let b = mapped-lines (decoded l) v.told ls (sym (told-some l v.told (omega arith)) ∙ told) in
    let hp : HasPacks l b.0 = packs b.0 b.1.0 in
    let s = stands l b.0 p page is hp lt (at b.0 b.1.0) in
    let next : p.next ≡ p.first + length (get_or (pages_in l b.0) p.page []) = s.next in
    let first : p.first ≡ 1 + length (joined (take p.page (pages_in l b.0))) = s.first in
    let place : length (joined (take p.page (pages_in l b.0))) + (k - p.first) ≡ k - 1 = omega arith in
    ap (λ q. line_in q (place_in (k - p.first) q)) s.is
    ∙ (on-page l.size (get_or (pages_in l b.0) p.page []) (k - p.first) (omega arith) (hp.fits p.page s.there) is.sized.1).0
    ∙ sym (get_or-flat_map (λ q. q) (pages_in l b.0) p.page (k - p.first) [] [] s.there (omega arith))
    ∙ ap (λ n. get_or (joined (pages_in l b.0)) n []) place
    ∙ ap (λ x. line_at x k) (sym (packs-decoded l b.0 hp) ∙ b.1.1)

-- the line that a half holds, on its page
pub line-held : (pair : Pair) (l : Layout) (v : ScratchView) (h : Half) (p : RecordPlace) (k : ℕ) (ls : List (List ℕ)) → IsLayout l → HoldsPacks l v → IsLoaded pair l v h p → p.line ≡ k → lines_told l v.told ≡ Some ls → line_in (page_of pair h) p.at ≡ line_at ls k
line-held pair l v h p k ls is packs loaded same told =
    ap (line_in (page_of pair h)) loaded.on.place
    ∙ line-there l v p (page_of pair h) p.line ls is packs loaded.on.page loaded.on.told loaded.some loaded.most loaded.on.low loaded.on.high told
    ∙ ap (line_at ls) same

-- pages, scratch and places where one half changes
pub held-more : (p q : Pair) (l : Layout) (hs ht : Places) (v w : ScratchView) (half : Half) → IsHeld p l hs v → q.size ≡ p.size → w.told ≡ v.told → ((h : Half) → h ≢ half → page_of q h ≡ page_of p h) → ((h : Half) → h ≢ half → place_of ht h ≡ place_of hs h) → ((x : RecordPlace) → place_of ht half ≡ Some x → IsLoaded q l w half x) → IsHeld q l ht w
held-more p q l hs ht v w half held size told pages places here = record {
  layout = held.layout;
  size = held.size ∙ sym size;
  packs = λ some b is. held.packs some b (sym told ∙ is);
  loaded = λ h x is. each half h here kept x is;
} where
  kept : (h : Half) (x : RecordPlace) → h ≢ half → place_of ht h ≡ Some x → IsLoaded q l w h x
  kept h x ne is =
      let was = held.loaded h x (sym (places h ne) ∙ is) in
      record {
        on = record {
          low = was.on.low;
          high = was.on.high;
          page = was.on.page;
          place = was.on.place ∙ ap (place_in (x.line - x.first)) (sym (pages h ne));
          within = subst (λ page. x.at ≤ length page) (sym (pages h ne)) was.on.within;
          told = λ b seen. subst (IsPage l b x) (sym (pages h ne)) (was.on.told b (sym told ∙ seen));
        };
        some = was.some;
        most = was.most;
        fits = subst (λ page. x.at + 4 + stated page x.at ≤ length page) (sym (pages h ne)) was.fits;
      }

  each : (g h : Half) → ((x : RecordPlace) → place_of ht g ≡ Some x → IsLoaded q l w g x) → ((h : Half) (x : RecordPlace) → h ≢ g → place_of ht h ≡ Some x → IsLoaded q l w h x) → (x : RecordPlace) → place_of ht h ≡ Some x → IsLoaded q l w h x
  each First First own others x is = own x is
  each First Second own others x is = others Second x (λ (e : Second ≡ First). (cc)) is
  each Second First own others x is = others First x (λ (e : First ≡ Second). (cc)) is
  each Second Second own others x is = own x is

-- marks where the page and the marks of one half change
pub marked-more : (p q : Pair) (ms mt : Marks) (half : Half) → AreMarked p ms → ((h : Half) → h ≢ half → page_of q h ≡ page_of p h) → ((h : Half) → h ≢ half → marks_of mt h ≡ marks_of ms h) → AreMarks (page_of q half) (marks_of mt half) → AreMarked q mt
marked-more p q ms mt half were pages marks here h = each half h here others where
  others : (h : Half) → h ≢ half → AreMarks (page_of q h) (marks_of mt h)
  others h ne = subst (λ page. AreMarks page (marks_of mt h)) (sym (pages h ne)) (subst (AreMarks (page_of p h)) (sym (marks h ne)) (were h))

  each : (g h : Half) → AreMarks (page_of q g) (marks_of mt g) → ((h : Half) → h ≢ g → AreMarks (page_of q h) (marks_of mt h)) → AreMarks (page_of q h) (marks_of mt h)
  each First First own others = own
  each First Second own others = others Second (λ (e : Second ≡ First). (cc))
  each Second First own others = others First (λ (e : First ≡ Second). (cc))
  each Second Second own others = own

pub load-cause : (e : LineFault) (l : Layout) (hs ht : Places) (v w : ScratchView) → 0 < l.count → HasPageCause e v w → HasCause e (seen_of l hs v) (seen_of l ht w)
load-cause Scratch l hs ht v w some h = h
load-cause (Disagree want got) l hs ht v w some h = (h.0, told-some l v.told some ∙ ap (option_map (decoded l)) h.1)

-- the place from which a line is found stands on the page that is held
pub start-held : (pair : Pair) (l : Layout) (places : Places) (ms : PageMarks) (v : ScratchView) (h : Half) (k : ℕ) (p : RecordPlace) → IsHeld pair l places v → AreMarks (page_of pair h) ms → IfStart (place_of places h) ms k (Some p) → IsOnPage pair l v h p
start-held pair l places ms v h k p held are start = from (place_of places h) refl start where
  from : (o : Option RecordPlace) → place_of places h ≡ o → IfStart o ms k (Some p) → IsOnPage pair l v h p
  from None is at = absurd at
  from (Some was) is at =
      let on = (held.loaded h was is).on in
      elim at.place [
        | inl same ↦ subst (IsOnPage pair l v h) (sym same) on
        | inr marked ↦
            let mark = marked.is (page_of pair h) are in
            let low : p.line ≤ k = at.low in
            let high : k < p.next = at.high in
            record {
              low = marked.low;
              high = omega arith;
              page = subst (λ n. n < l.pages) (sym at.page) on.page;
              place = mark.place;
              within = mark.within;
              told = λ b told.
                  let was = on.told b told in
                  record {
                    is = was.is ∙ ap (page_in l b) (sym at.page);
                    first = ap (first_line l b) at.page ∙ was.first ∙ sym at.first;
                    next = ap (λ n. first_line l b (n + 1)) at.page ∙ was.next ∙ sym at.next;
                  };
            }
      ]

pub record-cause : (e : LineFault) (n : ℕ) (page : List ℕ) (u v : ScratchView) → IsRecordFault e n page → (Overruns n page → u.told ≡ None) → HasPageCause e u v
record-cause Scratch n page u v h none = absurd h
record-cause (Disagree want got) n page u v h none = (h.0, none h.1)

pub empty-held : (pair : Pair) (l : Layout) (places : Places) (v : ScratchView) → IsLayout l → l.size ≡ pair.size → l.count ≡ 0 → ((h : Half) → place_of places h ≡ None) → IsHeld pair l places v
empty-held pair l places v is size none bare = record {
  layout = is;
  size = size;
  packs = λ some. absurd (omega arith);
  loaded = λ h p held. absurd (none-some p (sym (bare h) ∙ held));
}

pub empty-seen : (l : Layout) (places : Places) (v : ScratchView) → l.count ≡ 0 → IsEmpty (seen_of l places v)
empty-seen l places v e = record { told = told-none l v.told e; count = e }

-- the line that is lent
pub line-lent : (pair : Pair) (l : Layout) (places : Places) (v : ScratchView) (h : Half) (p : RecordPlace) (k : ℕ) (ls : List (List ℕ)) → IsHeld pair l places v → place_of places h ≡ Some p → line_held places h ≡ Some k → lines_told l v.told ≡ Some ls → line_in (page_of pair h) p.at ≡ line_at ls k
line-lent pair l places v h p k ls held is line told =
    let same : Some p.line ≡ Some k = ap (option_map (λ q. q.line)) (sym is) ∙ line in
    let e : p.line ≡ k = cc in
    let loaded = held.loaded h p is in
    let some : 1 ≤ p.line = loaded.some in
    let most : p.line ≤ l.count = loaded.most in
    line-held pair l v h p k ls held.layout (held.packs (omega arith)) loaded e told

unheld : (o : Option RecordPlace) → option_map (λ p. p.line) o ≡ None → o ≡ None
unheld None e = refl
unheld (Some p) e = absurd (none-some p.line (sym e))

-- a half that holds no line has no place
pub no-place : (places : Places) → ((h : Half) → line_held places h ≡ None) → (h : Half) → place_of places h ≡ None
no-place places none h = unheld (place_of places h) (none h)
