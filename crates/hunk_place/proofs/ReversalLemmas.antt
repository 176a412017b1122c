-- A hunk and its exchanged form.
use Rattle.std.proofs.Common.{◌≡◌, ℕ, zero, suc, ◌+◌, ◌-◌, ◌<◌, ◌≤◌, Bool, true, false, not, ◌&&◌, eqb, List, [], ◌∷◌, length, map, refl, sym, ap, ◌∙◌, arith, Option, Some, None}
use Rattle.std.proofs.lemmas.Bool.Decides.{nat_tests}
use Rattle.std.specs.Prelude.{ℤ, pos, ◌==◌, nat_lt}
use Rattle.hunk_core.specs.declared.Side.{Side}
use Rattle.hunk_core.specs.declared.Side.TheVariants.{Forward, Reversed}
use Rattle.hunk_core.specs.declared.Hunk.{Hunk}
use Rattle.hunk_core.specs.declared.Verdict.{Verdict}
use Rattle.hunk_core.specs.declared.Verdict.TheVariants.{Untried, Ignored, Nowhere, At}
use Rattle.hunk_core.specs.Sides.{taken_count}
use Rattle.hunk_core.specs.PlainHunk.{Marked, PlainHunk, hunk_of, old_lines}
use Rattle.hunk_core.specs.Turned.{swapped_line, swapped, other_side}
use Rattle.hunk_core.proofs.TurnedLemmas.{mark-twice}
use Rattle.hunk_place.specs.declared.Spot.{Spot}
use Rattle.hunk_place.specs.Taken.{taken, taken_lines}
use Rattle.hunk_place.specs.Verdicts.{verdict_of, spot, is_sooner, looks_reversed, verdict_sooner, is_without_fuzz, at_start}
use Rattle.hunk_place.proofs.FitLemmas.{taken-length}
use Rattle.hunk_place.proofs.TakenLemmas.{lines-are}

lines-twice : (ms : List Marked) → map swapped_line (map swapped_line ms) ≡ ms
lines-twice [] = refl
lines-twice (m ∷ ms) =
    let head : swapped_line (swapped_line m) ≡ m = ap (λ k. let x : Marked = record { mark = k; line = m.line } in x) (mark-twice m.mark) in
    ap (λ x. x ∷ map swapped_line (map swapped_line ms)) head ∙ ap (λ xs. m ∷ xs) (lines-twice ms)

pub swapped-taken : (text : List ℕ) (side : Side) (h : Hunk) → swapped (taken text side h) ≡ taken text (other_side side) h
swapped-taken text Forward h = refl
swapped-taken text Reversed h = ap (λ body. let c : PlainHunk = record { old_start = h.old_start; new_start = h.new_start; body = body } in c) (lines-twice (hunk_of text h).body)

pub other-length : (text : List ℕ) (side : Side) (h : Hunk) → length (old_lines (swapped (taken text side h)).body) ≡ taken_count (other_side side) h.body.items
other-length text side h = ap (λ c. length (old_lines c.body)) (swapped-taken text side h) ∙ ap length (sym (lines-are text (other_side side) h)) ∙ taken-length text (other_side side) h

pub sooner-is : (c d : PlainHunk) (s t : Option Spot) → verdict_sooner (verdict_of c s) (verdict_of d t) ≡ is_sooner s t
sooner-is c d None t = refl
sooner-is c d (Some s) None = refl
sooner-is c d (Some s) (Some t) = refl

none-sooner : (c : PlainHunk) (s t : Option Spot) → is_without_fuzz (verdict_of c t) ≡ true → is_sooner s t ≡ false
none-sooner c None t e = refl
none-sooner c (Some s) None e = cc
none-sooner c (Some s) (Some t) e = grind (arith, nat_tests)

and-no : (b : Bool) {c : Bool} → c ≡ false → (b && c) ≡ false
and-no true e = e
and-no false e = refl

pub not-empty : (lines : List (List ℕ)) (fuzz : ℕ) (loose : Bool) (text : List ℕ) (side : Side) (h : Hunk) → taken_count (other_side side) h.body.items ≡ 0 → looks_reversed lines fuzz loose (taken text side h) ≡ false
unfolding looks_reversed
not-empty lines fuzz loose text side h e =
    let t : eqb (length (old_lines (swapped (taken text side h)).body)) 0 ≡ true = ap (λ n. eqb n 0) (other-length text side h ∙ e) in
    rw t refl

pub not-fuzzed : (lines : List (List ℕ)) (fuzz : ℕ) (loose : Bool) (c : PlainHunk) (v : Verdict) → v ≡ verdict_of c (spot lines fuzz loose c at_start) → is_without_fuzz v ≡ true → looks_reversed lines fuzz loose c ≡ false
unfolding looks_reversed
not-fuzzed lines fuzz loose c v e t = and-no (not (eqb (length (old_lines (swapped c).body)) 0)) (none-sooner c (spot lines fuzz loose (swapped c) at_start) (spot lines fuzz loose c at_start) (ap is_without_fuzz (sym e) ∙ t))

pub is-sooner : (lines : List (List ℕ)) (fuzz : ℕ) (loose : Bool) (text : List ℕ) (side : Side) (h : Hunk) (own reverse : Verdict)
    → eqb (taken_count (other_side side) h.body.items) 0 ≡ false
    → own ≡ verdict_of (taken text side h) (spot lines fuzz loose (taken text side h) at_start)
    → reverse ≡ verdict_of (taken text (other_side side) h) (spot lines fuzz loose (taken text (other_side side) h) at_start)
    → verdict_sooner reverse own ≡ looks_reversed lines fuzz loose (taken text side h)
unfolding looks_reversed
is-sooner lines fuzz loose text side h own reverse some is_own is_reverse =
    let t : eqb (length (old_lines (swapped (taken text side h)).body)) 0 ≡ false = ap (λ n. eqb n 0) (other-length text side h) ∙ some in
    let value : verdict_sooner reverse own ≡ is_sooner (spot lines fuzz loose (swapped (taken text side h)) at_start) (spot lines fuzz loose (taken text side h) at_start) =
    ap (λ v. verdict_sooner v own) is_reverse
    ∙ ap (verdict_sooner (verdict_of (taken text (other_side side) h) (spot lines fuzz loose (taken text (other_side side) h) at_start))) is_own
    ∙ sooner-is (taken text (other_side side) h) (taken text side h) (spot lines fuzz loose (taken text (other_side side) h) at_start) (spot lines fuzz loose (taken text side h) at_start)
    ∙ ap (λ c. is_sooner (spot lines fuzz loose c at_start) (spot lines fuzz loose (taken text side h) at_start)) (sym (swapped-taken text side h)) in
    value ∙ sym (ap (λ b. not b && is_sooner (spot lines fuzz loose (swapped (taken text side h)) at_start) (spot lines fuzz loose (taken text side h) at_start)) t)
