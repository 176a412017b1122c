-- A hunk with a place that has neither fuzz nor an offset, and a hunk that gets one.
use Rattle.std.proofs.Common.{◌≡◌, ◌≢◌, ℕ, suc, ◌+◌, ◌-◌, ◌<◌, ◌≤◌, Bool, true, false, ◌&&◌, cond, List, [], ◌∷◌, ◌++◌, length, drop, min, refl, sym, ap, subst, ◌∙◌, arith, inl, inr, Option, Some, None}
use Rattle.std.specs.Prelude.{ℤ, pos, negsuc, nat_lt, nat_le, ◌==◌, find}
use Rattle.std.proofs.lemmas.Bool.{cases_eq}
use Rattle.std.proofs.lemmas.Bool.Decides.{nat_tests}
use Rattle.std.proofs.lemmas.Option.{same_Some}
use Rattle.std.proofs.lemmas.Int.{ints}
use Rattle.hunk_core.specs.PlainHunk.{PlainHunk, old_lines}
use Rattle.hunk_core.specs.Turned.{base, leading, trailing}
use Rattle.hunk_place.specs.Order.{by_distance, distance, from_to}
use Rattle.hunk_place.specs.Placing.{Search, at_guess, back_fuzz, context, first_fit, fits, front_fuzz, highest, least_fuzz, lowest, one_in, place, search_of, spot_or, tries}
use Rattle.hunk_place.specs.Verdicts.{spot, verdict_of}
use Rattle.hunk_place.specs.declared.PlaceState.{PlaceState}
use Rattle.hunk_place.specs.declared.Spot.{Spot}
use Rattle.hunk_place.proofs.FirstLemmas.{first-end, first-room, first-start}
use Rattle.hunk_place.proofs.OrderLemmas.{Each, each-ordered, each-range}
use Rattle.hunk_place.proofs.ScanLemmas.{found-above, scan-none}
use Rattle.hunk_place.proofs.SearchLemmas.{fuzz-found, place-empty, place-full}
use Rattle.hunk_apply.proofs.PlaceLemmas.{found-each, least-cons, least-none, spot-behind}
use Rattle.hunk_apply.proofs.SpliceLemmas.{from-next}
use Rattle.law_filters.specs.Turnable.{IsExact}
use Rattle.law_filters.proofs.Fitting.{fits-on, on-fits}
use Rattle.law_filters.proofs.Sides.{leading-old}

-- a place without fuzz
abbrev pub at_line : ℕ → Spot
at_line w = record { line = w; fuzz = 0 }

spot-is : (s : Spot) (w : ℕ) → s.line ≡ w → s.fuzz ≡ 0 → s ≡ at_line w
spot-is s w a b = ap (λ (l : ℕ). let t : Spot = record { line = l; fuzz = s.fuzz } in t) a ∙ ap (λ (f : ℕ). let t : Spot = record { line = w; fuzz = f } in t) b

-- a verdict that is exact is that of its base
pub exact-spot : (h : PlainHunk) (o : Option Spot) → IsExact (verdict_of h o) → o ≡ Some (at_line (base h))
exact-spot h None e = absurd e
exact-spot h (Some s) e = ap (λ (t : Spot). Some t) (spot-is s (base h) (omega (arith, ints, e.1)) e.0)

pub spot-exact : (h : PlainHunk) (o : Option Spot) → o ≡ Some (at_line (base h)) → IsExact (verdict_of h o)
spot-exact h o e = subst (λ p. IsExact (verdict_of h p)) (sym e) (refl, omega (arith, ints))

-- ---- what a place without fuzz says

find-hit : (f : ℕ → Bool) (w : ℕ) (ys : List ℕ) → find f ys ≡ Some w → f w ≡ true
find-hit f w [] e = absurd (cc)
find-hit f w (y ∷ ys) e = by (find-hit f w ys) (f y) refl
  where
    by : (find f ys ≡ Some w → f w ≡ true) → (b : Bool) → f y ≡ b → f w ≡ true
    by again true t = let some : Some y ≡ Some w = sym (rw t refl) ∙ e in let same : y ≡ w = cc in ap f (sym same) ∙ t
    by again false t = again (sym (rw t refl) ∙ e)

-- the lines end within the list, and at its end where more context leads than trails
record Ends (s : Search) (w : ℕ) : Type 0 where
  high : w ≤ highest s 0
  last : s.post < s.pre → w ≡ length s.lines + 1 - length s.old

each-one : (P : ℕ → Type 0) (low high w : ℕ) → (w ≤ high → P w) → Each P (one_in low high w)
each-one P low high w h = by (nat_le low w && nat_le w high) refl
  where
    by : (b : Bool) → (nat_le low w && nat_le w high) ≡ b → Each P (cond b (w ∷ []) [])
    by true e = (h (grind (arith, nat_tests)), tt)
    by false e = tt

each-tried : (s : Search) → Each (Ends s) (tries s 0)
unfolding tries
each-tried s = by (nat_lt 0 (context s - s.pre) && (s.start == 1)) refl (nat_lt 0 (context s - s.post)) refl
  where
    by : (a : Bool) → (nat_lt 0 (context s - s.pre) && (s.start == 1)) ≡ a → (b : Bool) → nat_lt 0 (context s - s.post) ≡ b
        → Each (Ends s) (cond a (one_in (lowest s) (highest s 0) 1) (cond b (one_in (lowest s) (highest s 0) (length s.lines + 1 - length s.old)) (by_distance (distance s.guess) (from_to (lowest s) (highest s 0)))))
    by true ea b eb =
        let more : 0 < context s - s.pre = grind (arith, nat_tests) in
        each-one (Ends s) (lowest s) (highest s 0) 1 (λ le. record { high = le; last = λ less. absurd (omega arith) })
    by false ea true eb = each-one (Ends s) (lowest s) (highest s 0) (length s.lines + 1 - length s.old) (λ le. record { high = le; last = λ less. refl })
    by false ea false eb =
        let none : context s - s.post ≤ 0 = grind (arith, nat_tests) in
        each-ordered (Ends s) (distance s.guess) (from_to (lowest s) (highest s 0))
        (each-range (Ends s) (lowest s) (suc (highest s 0) - lowest s) (λ v low high. record { high = omega arith; last = λ less. absurd (omega arith) }))

-- what the first place says
record Found (s : Search) (w : ℕ) : Type 0 where
  ends : Ends s w
  hit : fits s.lines s.old s.loose 0 0 w ≡ true

fit-found : (s : Search) (w : ℕ) → first_fit s 0 ≡ Some w → Found s w
unfolding first_fit
fit-found s w e =
    let front : front_fuzz s 0 ≡ 0 = omega arith in
    let back : back_fuzz s 0 ≡ 0 = omega arith in
    record {
      ends = found-each (Ends s) (fits s.lines s.old s.loose (front_fuzz s 0) (back_fuzz s 0)) w (tries s 0) (each-tried s) e;
      hit = ap (λ k. fits s.lines s.old s.loose k 0 w) (sym front) ∙ ap (λ k. fits s.lines s.old s.loose (front_fuzz s 0) k w) (sym back) ∙ find-hit (fits s.lines s.old s.loose (front_fuzz s 0) (back_fuzz s 0)) w (tries s 0) e;
    }

some-fuzz : (s : Search) (ks : List ℕ) (t : Spot) → Each (λ k. 1 ≤ k) ks → least_fuzz s ks ≡ Some t → 1 ≤ t.fuzz
some-fuzz s [] t each e = let bad : None ≡ Some t = sym (least-none s) ∙ e in absurd (cc)
some-fuzz s (k ∷ ks) t each e = by (some-fuzz s ks t each.1) (first_fit s k) refl (sym (least-cons s k ks) ∙ e)
  where
    by : (least_fuzz s ks ≡ Some t → 1 ≤ t.fuzz) → (o : Option ℕ) → first_fit s k ≡ o → spot_or k (first_fit s k) (least_fuzz s ks) ≡ Some t → 1 ≤ t.fuzz
    by again None is h = again (sym (ap (λ o. spot_or k o (least_fuzz s ks)) is) ∙ h)
    by again (Some w) is h =
        let u : Spot = record { line = w; fuzz = k } in
        let some : Some u ≡ Some t = sym (ap (λ o. spot_or k o (least_fuzz s ks)) is) ∙ h in
        let same : k ≡ t.fuzz = cc in
        omega (arith, same, each.0)

place-first : (s : Search) (fuzz w : ℕ) → length s.old ≢ 0 → place s fuzz ≡ Some (at_line w) → first_fit s 0 ≡ Some w
place-first s fuzz w some e =
    let most : ℕ = min fuzz (context s) in
    let whole : least_fuzz s (0 ∷ from_to 1 most) ≡ Some (at_line w) = ap (least_fuzz s) (sym (from-next 0 most (omega arith))) ∙ sym (place-full s fuzz most some refl) ∙ e in
    by (first_fit s 0) refl (sym (least-cons s 0 (from_to 1 most)) ∙ whole)
  where
    by : (o : Option ℕ) → first_fit s 0 ≡ o → spot_or 0 (first_fit s 0) (least_fuzz s (from_to 1 (min fuzz (context s)))) ≡ Some (at_line w) → first_fit s 0 ≡ Some w
    by None is h =
        let bad : 1 ≤ (at_line w).fuzz = some-fuzz s (from_to 1 (min fuzz (context s))) (at_line w) (each-range (λ k. 1 ≤ k) 1 (suc (min fuzz (context s)) - 1) (λ v low high. low)) (sym (ap (λ o. spot_or 0 o (least_fuzz s (from_to 1 (min fuzz (context s))))) is) ∙ h) in
        absurd (omega (arith, bad))
    by (Some v) is h =
        let some : Some (at_line v) ≡ Some (at_line w) = sym (ap (λ o. spot_or 0 o (least_fuzz s (from_to 1 (min fuzz (context s))))) is) ∙ h in
        is ∙ ap (λ (x : ℕ). Some x) (ap (λ (t : Spot). t.line) (same_Some (at_line v) (at_line w) some))

guess-high : (low high : ℕ) (g : ℤ) (t : Spot) → at_guess low high g ≡ Some t → t.line ≤ high
guess-high low high (negsuc w) t e = absurd (cc)
guess-high low high (pos w) t e = by (nat_le low w && nat_le w high) refl e
  where
    by : (b : Bool) → (nat_le low w && nat_le w high) ≡ b → let u : Spot = record { line = w; fuzz = 0 } in cond b (Some u) None ≡ Some t → t.line ≤ high
    by true b e = let line : w ≡ t.line = cc in let le : w ≤ high = grind (arith, nat_tests) in omega arith
    by false b e = absurd (cc)

-- the old lines of a hunk stand at a line
pub record Stands (lines : List (List ℕ)) (h : PlainHunk) (w : ℕ) : Type 0 where
  pub low : 1 ≤ w
  pub high : w + length (old_lines h.body) ≤ length lines + 1
  pub on : drop (w - 1) lines ≡ old_lines h.body ++ drop (w - 1 + length (old_lines h.body)) lines
  pub last : trailing h.body < leading h.body → w + length (old_lines h.body) ≡ length lines + 1

no-lines : (ls : List (List ℕ)) → length ls ≡ 0 → ls ≡ []
no-lines [] e = refl
no-lines (l ∷ ls) e = absurd (omega arith)

stands-empty : (lines : List (List ℕ)) (h : PlainHunk) (w : ℕ) → length (old_lines h.body) ≡ 0 → 1 ≤ w → w ≤ length lines + 1 → Stands lines h w
stands-empty lines h w none low high =
    let z : w - 1 + length (old_lines h.body) ≡ w - 1 = omega (arith, none) in
    record {
      low = low;
      high = omega (arith, none);
      on = sym (ap (λ (xs : List (List ℕ)). xs ++ drop (w - 1 + length (old_lines h.body)) lines) (no-lines (old_lines h.body) none) ∙ ap (λ k. drop k lines) z);
      last = λ less. absurd (omega (arith, leading-old h.body, none, less));
    }

stands-found : (lines : List (List ℕ)) (h : PlainHunk) (state : PlaceState) (w : ℕ) → length (old_lines h.body) ≢ 0 → 1 ≤ w → Found (search_of lines false h state) w → Stands lines h w
stands-found lines h state w some low f =
    let high : w + length (old_lines h.body) ≤ length lines + 1 = omega (arith, low, f.ends.high) in
    record {
      low = low;
      high = high;
      on = fits-on lines (old_lines h.body) w low high f.hit;
      last = λ less. omega (arith, high, f.ends.last less);
    }

spot-place : (lines : List (List ℕ)) (fuzz : ℕ) (h : PlainHunk) (state : PlaceState) → spot lines fuzz false h state ≡ place (search_of lines false h state) fuzz
unfolding spot
spot-place lines fuzz h state = refl

pub spot-stands : (lines : List (List ℕ)) (fuzz w : ℕ) (h : PlainHunk) (state : PlaceState) → spot lines fuzz false h state ≡ Some (at_line w) → Stands lines h w
spot-stands lines fuzz w h state e =
    let s : Search = search_of lines false h state in
    let placed : place s fuzz ≡ Some (at_line w) = sym (spot-place lines fuzz h state) ∙ e in
    let behind : state.consumed < w = spot-behind lines fuzz false h state (at_line w) e in
    elim (cases_eq (length (old_lines h.body)) 0) [
      | inl none ↦ stands-empty lines h w none (omega (arith, behind)) (guess-high (lowest s) (length lines + 1) s.guess (at_line w) (sym (place-empty s fuzz none) ∙ placed))
      | inr some ↦ stands-found lines h state w some (omega (arith, behind)) (fit-found s w (place-first s fuzz w some placed))
    ]

-- ---- a hunk that stands at its base gets that place

one-found : (f : ℕ → Bool) (low high g : ℕ) → low ≤ g → g ≤ high → f g ≡ true → find f (one_in low high g) ≡ Some g
one-found f low high g a b hit =
    let in_room : (nat_le low g && nat_le g high) ≡ true = grind (arith, nat_tests) in
    rw (in_room, hit) refl

first-exact : (s : Search) (g : ℕ) → s.guess ≡ pos g → lowest s ≤ g → g ≤ highest s 0 → fits s.lines s.old s.loose 0 0 g ≡ true
    → (s.start ≡ 1 → g ≡ 1) → (s.post < s.pre → g ≡ length s.lines + 1 - length s.old) → first_fit s 0 ≡ Some g
first-exact s g guess low high hit start last = by (nat_lt 0 (context s - s.pre) && (s.start == 1)) refl (nat_lt 0 (context s - s.post)) refl
  where
    by : (a : Bool) → (nat_lt 0 (context s - s.pre) && (s.start == 1)) ≡ a → (b : Bool) → nat_lt 0 (context s - s.post) ≡ b → first_fit s 0 ≡ Some g
    by true ea b eb =
        let one : s.start ≡ 1 = grind (arith, nat_tests) in
        sym (first-start s 0 0 0 (lowest s) (highest s 0) (omega arith) (omega arith) refl refl ea)
        ∙ ap (λ w. find (fits s.lines s.old s.loose 0 0) (one_in (lowest s) (highest s 0) w)) (sym (start one))
        ∙ one-found (fits s.lines s.old s.loose 0 0) (lowest s) (highest s 0) g low high hit
    by false ea true eb =
        let less : 0 < context s - s.post = grind (arith, nat_tests) in
        sym (first-end s 0 0 0 (lowest s) (highest s 0) g (omega arith) (omega arith) refl refl (last (omega arith)) ea eb)
        ∙ one-found (fits s.lines s.old s.loose 0 0) (lowest s) (highest s 0) g low high hit
    by false ea false eb =
        let z : g + 0 ≡ g = omega arith in
        let f : ℕ → Bool = fits s.lines s.old s.loose 0 0 in
        let found : find f (by_distance (distance (pos g)) (from_to (lowest s) (highest s 0))) ≡ Some (g + 0) = found-above f (lowest s) (highest s 0) g 0 (scan-none f (lowest s) (highest s 0) g) low (omega arith) (ap f z ∙ hit) in
        sym (first-room s 0 0 0 (lowest s) (highest s 0) (omega arith) (omega arith) refl refl ea eb)
        ∙ ap (λ d. find f (by_distance (distance d) (from_to (lowest s) (highest s 0)))) guess
        ∙ found ∙ ap (λ (x : ℕ). Some x) z

at-guess : (low high g : ℕ) → low ≤ g → g ≤ high → at_guess low high (pos g) ≡ Some (at_line g)
at-guess low high g a b = let in_room : (nat_le low g && nat_le g high) ≡ true = grind (arith, nat_tests) in rw in_room refl

base-some : (h : PlainHunk) → length (old_lines h.body) ≢ 0 → base h ≡ h.old_start
base-some h some = let t : (length (old_lines h.body) == 0) ≡ false = grind (arith, nat_tests) in rw t refl

pub stands-spot : (lines : List (List ℕ)) (fuzz : ℕ) (h : PlainHunk) (state : PlaceState) → Stands lines h (base h) → state.consumed < base h → state.offset ≡ pos 0 → spot lines fuzz false h state ≡ Some (at_line (base h))
stands-spot lines fuzz h state at behind still =
    let s : Search = search_of lines false h state in
    let guess : s.guess ≡ pos (base h) = omega (arith, ints, still) in
    spot-place lines fuzz h state ∙ elim (cases_eq (length (old_lines h.body)) 0) [
      | inl none ↦ place-empty s fuzz none ∙ ap (at_guess (lowest s) (length lines + 1)) guess ∙ at-guess (lowest s) (length lines + 1) (base h) (omega (arith, behind)) (omega (arith, at.high))
      | inr some ↦ place-full s fuzz (min fuzz (context s)) some refl
          ∙ fuzz-found s 0 (min fuzz (context s)) (base h) (omega arith)
          (first-exact s (base h) guess (omega (arith, behind)) (omega (arith, at.high)) (on-fits lines (old_lines h.body) (drop (base h - 1 + length (old_lines h.body)) lines) (base h) at.low at.on)
          (λ one. base-some h some ∙ one) (λ less. omega (arith, at.last less)))
    ]
