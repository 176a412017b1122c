-- A placed hunk but for its trailing context lies in the list of lines.
use Rattle.std.proofs.Common.{◌≡◌, ℕ, suc, ◌+◌, ◌-◌, ◌<◌, ◌≤◌, ◌&&◌, List, [], ◌∷◌, length, min, Bool, true, false, cond, refl, sym, ap, subst, ◌∙◌, arith, Option, Some, None}
use Rattle.std.specs.Prelude.{ℤ, pos, negsuc, ◌==◌, nat_lt, nat_le}
use Rattle.std.proofs.lemmas.Bool.Decides.{nat_tests}
use Rattle.hunk_core.specs.PlainHunk.{PlainHunk, old_lines}
use Rattle.hunk_core.specs.Turned.{trailing}
use Rattle.hunk_place.specs.Order.{from_to, distance, by_distance}
use Rattle.hunk_place.specs.Placing.{Search, context, front_fuzz, back_fuzz, lowest, highest, one_in, tries, fits, first_fit, spot_or, least_fuzz, at_guess, place, search_of}
use Rattle.hunk_place.specs.Verdicts.{spot}
use Rattle.hunk_place.specs.declared.PlaceState.{PlaceState}
use Rattle.hunk_place.specs.declared.Spot.{Spot}
use Rattle.hunk_place.proofs.OrderLemmas.{Each, each-range, each-ordered}
use Rattle.hunk_apply.proofs.PlaceLemmas.{found-each, each-cond, least-cons, least-none, spot-behind}

each-one : (low high w : ℕ) → Each (λ v. v ≤ high) (one_in low high w)
each-one low high w = by (nat_le low w && nat_le w high) refl
  where
    by : (b : Bool) → (nat_le low w && nat_le w high) ≡ b → Each (λ v. v ≤ high) (cond b (w ∷ []) [])
    by true e = (grind (arith, nat_tests), tt)
    by false e = tt

each-tried : (s : Search) (k : ℕ) → Each (λ v. v ≤ highest s k) (tries s k)
unfolding tries
each-tried s k =
    each-cond (λ v. v ≤ highest s k) (nat_lt k (context s - s.pre) && (s.start == 1)) (one_in (lowest s) (highest s k) 1) (cond (nat_lt k (context s - s.post)) (one_in (lowest s) (highest s k) (length s.lines + 1 - length s.old)) (by_distance (distance s.guess) (from_to (lowest s) (highest s k))))
    (each-one (lowest s) (highest s k) 1)
    (each-cond (λ v. v ≤ highest s k) (nat_lt k (context s - s.post)) (one_in (lowest s) (highest s k) (length s.lines + 1 - length s.old)) (by_distance (distance s.guess) (from_to (lowest s) (highest s k)))
    (each-one (lowest s) (highest s k) (length s.lines + 1 - length s.old))
    (each-ordered (λ v. v ≤ highest s k) (distance s.guess) (from_to (lowest s) (highest s k)) (each-range (λ v. v ≤ highest s k) (lowest s) (suc (highest s k) - lowest s) (λ v low high. omega arith))))

fit-high : (s : Search) (k w : ℕ) → first_fit s k ≡ Some w → w ≤ highest s k
unfolding first_fit
fit-high s k w e = found-each (λ v. v ≤ highest s k) (fits s.lines s.old s.loose (front_fuzz s k) (back_fuzz s k)) w (tries s k) (each-tried s k) e

-- the lines but for trailing context end within the list, or the place is none
abbrev Ends : Search → ℕ → Type 0
Ends s w = 1 ≤ w → w + length s.old ≤ length s.lines + 1 + s.post

room : (s : Search) (k w : ℕ) → s.post ≤ context s → k ≤ context s → w ≤ highest s k → Ends s w
room s k w most few le low = omega arith

least-high : (s : Search) (ks : List ℕ) (t : Spot) → s.post ≤ context s → Each (λ k. k ≤ context s) ks → least_fuzz s ks ≡ Some t → Ends s t.line
least-high s [] t most few e = let bad : None ≡ Some t = sym (least-none s) ∙ e in cc
least-high s (k ∷ ks) t most few e = by (least-high s ks t most few.1) (first_fit s k) refl (sym (least-cons s k ks) ∙ e)
  where
    by : (least_fuzz s ks ≡ Some t → Ends s t.line) → (o : Option ℕ) → first_fit s k ≡ o → spot_or k (first_fit s k) (least_fuzz s ks) ≡ Some t → Ends s t.line
    by again None is h = again (sym (ap (λ o. spot_or k o (least_fuzz s ks)) is) ∙ h)
    by again (Some w) is h =
        let u : Spot = record { line = w; fuzz = k } in
        let some : Some u ≡ Some t = sym (ap (λ o. spot_or k o (least_fuzz s ks)) is) ∙ h in
        let line : w ≡ t.line = cc in
        subst (Ends s) line (room s k w most few.0 (fit-high s k w is))

guess-high : (low high : ℕ) (g : ℤ) (t : Spot) → at_guess low high g ≡ Some t → t.line ≤ high
guess-high low high (negsuc w) t e = cc
guess-high low high (pos w) t e = by (nat_le low w && nat_le w high) refl e
  where
    by : (b : Bool) → (nat_le low w && nat_le w high) ≡ b → let u : Spot = record { line = w; fuzz = 0 } in cond b (Some u) None ≡ Some t → t.line ≤ high
    by true b e = let line : w ≡ t.line = cc in let le : w ≤ high = grind (arith, nat_tests) in omega arith
    by false b e = cc

place-high : (s : Search) (fuzz : ℕ) (t : Spot) → s.post ≤ context s → place s fuzz ≡ Some t → Ends s t.line
unfolding place
place-high s fuzz t most e = by (length s.old == 0) refl e
  where
    by : (b : Bool) → (length s.old == 0) ≡ b → cond b (at_guess (lowest s) (length s.lines + 1) s.guess) (least_fuzz s (from_to 0 (min fuzz (context s)))) ≡ Some t → Ends s t.line
    by true z h = λ low.
        let none : length s.old ≡ 0 = grind (arith, nat_tests) in
        let le : t.line ≤ length s.lines + 1 = guess-high (lowest s) (length s.lines + 1) s.guess t h in
        omega arith
    by false z h = least-high s (from_to 0 (min fuzz (context s))) t most (each-range (λ k. k ≤ context s) 0 (suc (min fuzz (context s)) - 0) (λ v low high. omega arith)) h

placed : (lines : List (List ℕ)) (fuzz : ℕ) (loose : Bool) (h : PlainHunk) (state : PlaceState) (s : Spot) → spot lines fuzz loose h state ≡ Some s → Ends (search_of lines loose h state) s.line
unfolding spot
placed lines fuzz loose h state s e = place-high (search_of lines loose h state) fuzz s (omega arith) e

pub spot-within : (lines : List (List ℕ)) (fuzz : ℕ) (loose : Bool) (h : PlainHunk) (state : PlaceState) (s : Spot) → spot lines fuzz loose h state ≡ Some s → s.line + length (old_lines h.body) ≤ length lines + 1 + trailing h.body
spot-within lines fuzz loose h state s e =
    let low : state.consumed < s.line = spot-behind lines fuzz loose h state s e in
    placed lines fuzz loose h state s e (omega arith)
