-- Pages, scratch and halves over a call.
use Rattle.std.proofs.Common.{◌≡◌, ◌≢◌, ℕ, ◌+◌, ◌-◌, ◌*◌, ◌<◌, ◌≤◌, List, [], take, drop, Option, None, Some, refl, sym, ap, subst, ◌∙◌, arith}
use Rattle.std.specs.Option.{option_map}
use Rattle.std.proofs.lemmas.List.FromFn.{get_or-map-range_with_len}
use Rattle.line_store.specs.Store.{line_at, HasCause}
use Rattle.line_store.specs.declared.fault.LineFault.{LineFault}
use Rattle.line_store.specs.declared.fault.LineFault.TheVariants.{Scratch, Disagree}
use Rattle.outside.specs.ScratchView.{ScratchView}
use Rattle.line_store.specs.declared.Half.{Half}
use Rattle.line_store.specs.declared.Half.TheVariants.{First, Second}
use Rattle.line_store.specs.declared.halves.Halves.{Halves}
use Rattle.line_store.specs.Halves.{half_of}
use Rattle.page_pair.specs.Pair.{Pair, page_of}
use Rattle.page_pair.specs.Held.{HasPageCause}
use Rattle.page_pair.proofs.Told.{mapped-lines}
use Rattle.plan_b.specs.declared.layout.Layout.{Layout}
use Rattle.plan_b.specs.Layout.{IsLayout, page_number, place_on_page, place_of, decoded, lines_told, told-some}
use Rattle.page_pair.specs.Records.{stated, line_in}
use Rattle.plan_b.specs.Held.{seen_of, HoldsPage, HoldsRecords, IsLoaded, IsHeld, page_held}
use Rattle.page_pair.proofs.Windows.{window}
use Rattle.plan_b.proofs.Layouts.{place-fits}

mapped-some : (f : ℕ → ℕ) (o : Option ℕ) (j : ℕ) → option_map f o ≡ Some j → (k : ℕ) × ((o ≡ Some k) × (f k ≡ j))
mapped-some f None j e = absurd cc
mapped-some f (Some k) j e = (k, (refl, cc))

pub page-kept : (pair : Pair) (l : Layout) (halves : Halves) (v : ScratchView) (h : Half) (j : ℕ) → IsHeld pair l halves v → page_held l halves h ≡ Some j → HoldsPage pair l v h j
page-kept pair l halves v h j held is b told =
    let k = mapped-some (λ n. page_number l (n - 1)) (half_of halves h) j is in
    (held.loaded h k.0 k.1.0).page b told ∙ ap (λ n. take l.size (drop (n * l.size) b)) k.1.1

pub stated-on-page : (size o at : ℕ) (b : List ℕ) → at + 4 ≤ size → stated (take size (drop o b)) at ≡ stated b (o + at)
unfolding stated
stated-on-page size o at b le = rw (window 4 at size o b le) refl

pub line-on-page : (size o at : ℕ) (b : List ℕ) → at + 4 + stated (take size (drop o b)) at ≤ size → line_in (take size (drop o b)) at ≡ line_in b (o + at)
unfolding line_in
line-on-page size o at b le =
    let n : ℕ = stated (take size (drop o b)) at in
    let far : o + (at + 4) ≡ o + at + 4 = omega arith in
    window (stated (take size (drop o b)) at) (at + 4) size o b le
    ∙ ap (λ k. take (stated (take size (drop o b)) at) (drop k b)) far
    ∙ ap (λ k. take k (drop (o + at + 4) b)) (stated-on-page size o at b (omega arith))

pub held-more : (p q : Pair) (l : Layout) (hs ht : Halves) (v w : ScratchView) (half : Half) → IsHeld p l hs v → q.size ≡ p.size → w.told ≡ v.told → ((h : Half) → h ≢ half → page_of q h ≡ page_of p h) → ((h : Half) → h ≢ half → half_of ht h ≡ half_of hs h) → ((k : ℕ) → half_of ht half ≡ Some k → IsLoaded q l w half k) → IsHeld q l ht w
held-more p q l hs ht v w half held size told pages halves here = record {
  layout = held.layout;
  size = held.size ∙ sym size;
  records = λ b is. held.records b (sym told ∙ is);
  loaded = λ h k is. each half h here kept k is;
} where
  kept : (h : Half) (k : ℕ) → h ≢ half → half_of ht h ≡ Some k → IsLoaded q l w h k
  kept h k ne is =
      let was = held.loaded h k (sym (halves h ne) ∙ is) in
      record {
        low = was.low;
        high = was.high;
        fits = subst (λ page. stated page (place_on_page l (k - 1)) + 4 ≤ l.width) (sym (pages h ne)) was.fits;
        page = λ b seen. pages h ne ∙ was.page b (sym told ∙ seen);
      }

  each : (g h : Half) → ((k : ℕ) → half_of ht g ≡ Some k → IsLoaded q l w g k) → ((h : Half) (k : ℕ) → h ≢ g → half_of ht h ≡ Some k → IsLoaded q l w h k) → (k : ℕ) → half_of ht h ≡ Some k → IsLoaded q l w h k
  each First First own others k is = own k is
  each First Second own others k is = others Second k (λ (e : Second ≡ First). (cc)) is
  each Second First own others k is = others First k (λ (e : First ≡ Second). (cc)) is
  each Second Second own others k is = own k is

-- line k of those that a layout's records hold
decoded-at : (l : Layout) (b : List ℕ) (k : ℕ) → 1 ≤ k → k ≤ l.count → line_at (decoded l b) k ≡ line_in b (place_of l (k - 1))
unfolding decoded
decoded-at l b k low high = get_or-map-range_with_len (λ k. line_in b (place_of l k)) 0 l.count (k - 1) (k - 1) [] (omega arith) (omega arith)

-- a line of the page that a half holds
pub line-there : (pair : Pair) (l : Layout) (v : ScratchView) (h : Half) (k : ℕ) (ls : List (List ℕ)) → IsLayout l → HoldsRecords l v → HoldsPage pair l v h (page_number l (k - 1)) → 1 ≤ k → k ≤ l.count → lines_told l v.told ≡ Some ls → line_in (page_of pair h) (place_on_page l (k - 1)) ≡ line_at ls k
line-there pair l v h k ls is records holds low high told =
    let b = mapped-lines (decoded l) v.told ls (sym (told-some l v.told (omega arith)) ∙ told) in
    let page : page_of pair h ≡ take l.size (drop (page_number l (k - 1) * l.size) b.0) = holds b.0 b.1.0 in
    let within : place_on_page l (k - 1) + l.width ≤ l.size = place-fits l (k - 1) is in
    let wide : 4 ≤ l.width = is.low in
    let same : stated (take l.size (drop (page_number l (k - 1) * l.size) b.0)) (place_on_page l (k - 1)) ≡ stated b.0 (place_of l (k - 1)) = stated-on-page l.size (page_number l (k - 1) * l.size) (place_on_page l (k - 1)) b.0 (omega arith) in
    let fits : stated b.0 (place_of l (k - 1)) + 4 ≤ l.width = (records b.0 b.1.0).fits (k - 1) (omega arith) in
    ap (λ p. line_in p (place_on_page l (k - 1))) page
    ∙ line-on-page l.size (page_number l (k - 1) * l.size) (place_on_page l (k - 1)) b.0 (omega arith)
    ∙ sym (decoded-at l b.0 k low high)
    ∙ ap (λ ls. line_at ls k) b.1.1

pub load-cause : (e : LineFault) (l : Layout) (hs ht : Halves) (v w : ScratchView) → 0 < l.count → HasPageCause e v w → HasCause e (seen_of l hs v) (seen_of l ht w)
load-cause Scratch l hs ht v w some h = h
load-cause (Disagree want got) l hs ht v w some h = (h.0, told-some l v.told some ∙ ap (option_map (decoded l)) h.1)
