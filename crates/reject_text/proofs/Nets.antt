-- The net of placed hunks is the one that the placing counts.
use Rattle.std.proofs.Common.{◌≡◌, ℕ, zero, suc, List, [], ◌∷◌, take, Bool, Option, Some, None, refl, sym, ap, ◌∙◌, arith}
use Rattle.std.specs.Prelude.{ℤ, pos, ◌+ℤ◌, ◌-ℤ◌}
use Rattle.std.specs.List.{zip}
use Rattle.std.proofs.lemmas.Int.{ints}
use Rattle.std.proofs.lemmas.List.Sums.{sum_by-cons}
use Rattle.hunk_core.specs.PlainHunk.{PlainHunk}
use Rattle.hunk_place.specs.declared.Spot.{Spot}
use Rattle.hunk_place.specs.declared.PlaceState.{PlaceState}
use Rattle.hunk_place.specs.Verdicts.{verdict_of, after_hunk, at_start, spot, verdicts}
use Rattle.reject_text.specs.Starts.{Row, placed_adds, placed_drops, net, state_behind}

abbrev growth : Row → ℤ
growth row = pos (placed_adds row) -ℤ pos (placed_drops row)

net-cons : (row : Row) (rows : List Row) → net (row ∷ rows) ≡ growth row +ℤ net rows
net-cons row rows = omega (arith, ints, sum_by-cons placed_adds row rows, sum_by-cons placed_drops row rows)

-- what one hunk does to the net
grown : (h : PlainHunk) (state : PlaceState) (place : Option Spot) → (after_hunk h state place).net ≡ state.net +ℤ growth (h, verdict_of h place)
grown h state None = omega (arith, ints)
grown h state (Some s) = refl

plus-none : (z : ℤ) → z +ℤ (pos 0 -ℤ pos 0) ≡ z
plus-none z = omega (arith, ints)

plus-both : (a b c : ℤ) → a +ℤ (b +ℤ c) ≡ (a +ℤ b) +ℤ c
plus-both a b c = omega (arith, ints)

pub nets : (lines : List (List ℕ)) (fuzz : ℕ) (loose : Bool) (n : ℕ) (hs : List PlainHunk) (state : PlaceState) → state.net +ℤ net (take n (zip hs (verdicts lines fuzz loose state hs))) ≡ (state_behind lines fuzz loose state (take n hs)).net
unfolding verdicts state_behind
nets lines fuzz loose zero hs state = plus-none state.net
nets lines fuzz loose (suc n) [] state = plus-none state.net
nets lines fuzz loose (suc n) (h ∷ hs) state =
    let place = spot lines fuzz loose h state in
    let next = after_hunk h state place in
    let rows : List Row = take n (zip hs (verdicts lines fuzz loose next hs)) in
    ap (λ z. state.net +ℤ z) (net-cons (h, verdict_of h place) rows)
    ∙ plus-both state.net (growth (h, verdict_of h place)) (net rows)
    ∙ ap (λ z. z +ℤ net rows) (sym (grown h state place))
    ∙ nets lines fuzz loose n hs next

pub nets-in-words : (lines : List (List ℕ)) (fuzz : ℕ) (loose : Bool) (hs : List PlainHunk) (n : ℕ) → net (take n (zip hs (verdicts lines fuzz loose at_start hs))) ≡ (state_behind lines fuzz loose at_start (take n hs)).net
nets-in-words lines fuzz loose hs n = none (net (take n (zip hs (verdicts lines fuzz loose at_start hs)))) ∙ nets lines fuzz loose n hs at_start
  where
    none : (z : ℤ) → z ≡ pos 0 +ℤ z
    none z = omega (arith, ints)
