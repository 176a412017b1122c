-- A place lies behind what was consumed.
use Rattle.std.proofs.Common.{◌≡◌, ℕ, suc, ◌+◌, ◌-◌, ◌<◌, ◌≤◌, ◌&&◌, List, [], ◌∷◌, length, min, Bool, true, false, cond, refl, sym, ap, subst, ◌∙◌, arith, Option, Some, None}
use Rattle.std.specs.Prelude.{ℤ, pos, negsuc, ◌==◌, nat_lt, nat_le, find}
use Rattle.std.proofs.lemmas.Bool.Decides.{nat_tests}
use Rattle.hunk_core.specs.PlainHunk.{PlainHunk}
use Rattle.hunk_place.specs.Order.{from_to, distance, by_distance}
use Rattle.hunk_place.specs.Placing.{Search, context, front_fuzz, back_fuzz, lowest, highest, one_in, tries, fits, first_fit, spot_or, least_fuzz, at_guess, place, search_of}
use Rattle.hunk_place.specs.Verdicts.{spot}
use Rattle.hunk_place.specs.declared.PlaceState.{PlaceState}
use Rattle.hunk_place.specs.declared.Spot.{Spot}
use Rattle.hunk_place.proofs.OrderLemmas.{Each, each-range, each-ordered}

pub found-each : (P : ℕ → Type 0) (f : ℕ → Bool) (w : ℕ) (ys : List ℕ) → Each P ys → find f ys ≡ Some w → P w
found-each P f w [] h e = cc
found-each P f w (y ∷ ys) h e = by (found-each P f w ys h.1) (f y) refl
  where
    by : (find f ys ≡ Some w → P w) → (b : Bool) → f y ≡ b → P w
    by again true t = let some : Some y ≡ Some w = sym (rw t refl) ∙ e in let same : y ≡ w = cc in subst P same h.0
    by again false t = again (sym (rw t refl) ∙ e)

each-one : (low high w : ℕ) → Each (λ v. low ≤ v) (one_in low high w)
each-one low high w = by (nat_le low w && nat_le w high) refl
  where
    by : (b : Bool) → (nat_le low w && nat_le w high) ≡ b → Each (λ v. low ≤ v) (cond b (w ∷ []) [])
    by true e = (grind (arith, nat_tests), tt)
    by false e = tt

pub each-cond : (P : ℕ → Type 0) (b : Bool) (xs ys : List ℕ) → Each P xs → Each P ys → Each P (cond b xs ys)
each-cond P true xs ys h k = h
each-cond P false xs ys h k = k

each-tried : (s : Search) (k : ℕ) → Each (λ v. lowest s ≤ v) (tries s k)
unfolding tries
each-tried s k =
    each-cond (λ v. lowest s ≤ v) (nat_lt k (context s - s.pre) && (s.start == 1)) (one_in (lowest s) (highest s k) 1) (cond (nat_lt k (context s - s.post)) (one_in (lowest s) (highest s k) (length s.lines + 1 - length s.old)) (by_distance (distance s.guess) (from_to (lowest s) (highest s k))))
    (each-one (lowest s) (highest s k) 1)
    (each-cond (λ v. lowest s ≤ v) (nat_lt k (context s - s.post)) (one_in (lowest s) (highest s k) (length s.lines + 1 - length s.old)) (by_distance (distance s.guess) (from_to (lowest s) (highest s k)))
    (each-one (lowest s) (highest s k) (length s.lines + 1 - length s.old))
    (each-ordered (λ v. lowest s ≤ v) (distance s.guess) (from_to (lowest s) (highest s k)) (each-range (λ v. lowest s ≤ v) (lowest s) (suc (highest s k) - lowest s) (λ v low high. low))))

fit-low : (s : Search) (k w : ℕ) → first_fit s k ≡ Some w → lowest s ≤ w
unfolding first_fit
fit-low s k w e = found-each (λ v. lowest s ≤ v) (fits s.lines s.old s.loose (front_fuzz s k) (back_fuzz s k)) w (tries s k) (each-tried s k) e

pub least-cons : (s : Search) (k : ℕ) (ks : List ℕ) → least_fuzz s (k ∷ ks) ≡ spot_or k (first_fit s k) (least_fuzz s ks)
unfolding least_fuzz
least-cons s k ks = refl

pub least-none : (s : Search) → least_fuzz s [] ≡ None
unfolding least_fuzz
least-none s = refl

least-low : (s : Search) (ks : List ℕ) (t : Spot) → least_fuzz s ks ≡ Some t → lowest s ≤ t.line
least-low s [] t e = let bad : None ≡ Some t = sym (least-none s) ∙ e in cc
least-low s (k ∷ ks) t e = by (least-low s ks t) (first_fit s k) refl (sym (least-cons s k ks) ∙ e)
  where
    by : (least_fuzz s ks ≡ Some t → lowest s ≤ t.line) → (o : Option ℕ) → first_fit s k ≡ o → spot_or k (first_fit s k) (least_fuzz s ks) ≡ Some t → lowest s ≤ t.line
    by again None is h = again (sym (ap (λ o. spot_or k o (least_fuzz s ks)) is) ∙ h)
    by again (Some w) is h =
        let u : Spot = record { line = w; fuzz = k } in
        let some : Some u ≡ Some t = sym (ap (λ o. spot_or k o (least_fuzz s ks)) is) ∙ h in
        let line : w ≡ t.line = cc in
        let low : lowest s ≤ w = fit-low s k w is in
        omega arith

guess-low : (low high : ℕ) (g : ℤ) (t : Spot) → at_guess low high g ≡ Some t → low ≤ t.line
guess-low low high (negsuc w) t e = cc
guess-low low high (pos w) t e = by (nat_le low w && nat_le w high) refl e
  where
    by : (b : Bool) → (nat_le low w && nat_le w high) ≡ b → let u : Spot = record { line = w; fuzz = 0 } in cond b (Some u) None ≡ Some t → low ≤ t.line
    by true b e = let line : w ≡ t.line = cc in let le : low ≤ w = grind (arith, nat_tests) in omega arith
    by false b e = cc

place-low : (s : Search) (fuzz : ℕ) (t : Spot) → place s fuzz ≡ Some t → lowest s ≤ t.line
unfolding place
place-low s fuzz t e = by (length s.old == 0) e
  where
    by : (b : Bool) → cond b (at_guess (lowest s) (length s.lines + 1) s.guess) (least_fuzz s (from_to 0 (min fuzz (context s)))) ≡ Some t → lowest s ≤ t.line
    by true h = guess-low (lowest s) (length s.lines + 1) s.guess t h
    by false h = least-low s (from_to 0 (min fuzz (context s))) t h

pub spot-behind : (lines : List (List ℕ)) (fuzz : ℕ) (loose : Bool) (h : PlainHunk) (state : PlaceState) (s : Spot) → spot lines fuzz loose h state ≡ Some s → state.consumed < s.line
unfolding spot
spot-behind lines fuzz loose h state s e = let low : lowest (search_of lines loose h state) ≤ s.line = place-low (search_of lines loose h state) fuzz s e in omega arith
