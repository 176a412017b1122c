-- Hunks whose places have neither fuzz nor offsets.
use Rattle.std.proofs.Common.{◌≡◌, ℕ, ◌+◌, ◌-◌, ◌<◌, ◌≤◌, Bool, true, false, cond, ◌&&◌, List, [], ◌∷◌, ◌++◌, length, take, drop, map, refl, sym, ap, subst, ◌∙◌, arith, Option, Some}
use Rattle.std.specs.Prelude.{ℤ, pos, ◌-ℤ◌, ◌+ℤ◌, ◌==◌}
use Rattle.std.specs.List.{AllByRecursion}
use Rattle.std.proofs.lemmas.List.{take-append-drop, drop-drop, drop_all, length-append, length-drop, length-take-le}
use Rattle.std.proofs.Math.Seq.{drop-append_seam}
use Rattle.std.proofs.lemmas.Int.{ints}
use Rattle.hunk_core.specs.PlainHunk.{PlainHunk, old_lines, new_lines}
use Rattle.hunk_core.specs.Turned.{base, trailing, swapped}
use Rattle.hunk_place.specs.Verdicts.{adds, after_hunk, drops, spot, spots, verdict_of, verdicts}
use Rattle.hunk_place.specs.declared.PlaceState.{PlaceState}
use Rattle.hunk_place.specs.declared.Spot.{Spot}
use Rattle.law_filters.specs.Turnable.{EndOnlyLast, FollowNet, IsExact, StandApart}
use Rattle.law_filters.proofs.Sides.{sides-balance}
use Rattle.law_filters.proofs.Standing.{Stands, at_line, exact-spot, spot-exact, spot-stands, stands-spot}
use Rattle.law_filters.proofs.Turns.{Turn, Turns}

verdicts-cons : (lines : List (List ℕ)) (fuzz : ℕ) (state : PlaceState) (h : PlainHunk) (hs : List PlainHunk)
    → verdicts lines fuzz false state (h ∷ hs) ≡ verdict_of h (spot lines fuzz false h state) ∷ verdicts lines fuzz false (after_hunk h state (spot lines fuzz false h state)) hs
unfolding verdicts
verdicts-cons lines fuzz state h hs = refl

verdicts-nil : (lines : List (List ℕ)) (fuzz : ℕ) (state : PlaceState) → verdicts lines fuzz false state [] ≡ []
unfolding verdicts
verdicts-nil lines fuzz state = refl

spots-cons : (lines : List (List ℕ)) (fuzz : ℕ) (state : PlaceState) (h : PlainHunk) (hs : List PlainHunk)
    → spots lines fuzz false state (h ∷ hs) ≡ spot lines fuzz false h state ∷ spots lines fuzz false (after_hunk h state (spot lines fuzz false h state)) hs
unfolding spots
spots-cons lines fuzz state h hs = refl

spots-nil : (lines : List (List ℕ)) (fuzz : ℕ) (state : PlaceState) → spots lines fuzz false state [] ≡ []
unfolding spots
spots-nil lines fuzz state = refl

-- each hunk at its base
abbrev pub as_stated : List PlainHunk → List (Option Spot)
as_stated hs = map (λ h. Some (at_line (base h))) hs

abbrev pub behind : PlainHunk → PlaceState → PlaceState
behind h state = after_hunk h state (Some (at_line (base h)))

pub first-exact : (lines : List (List ℕ)) (fuzz : ℕ) (state : PlaceState) (h : PlainHunk) (hs : List PlainHunk) → AllByRecursion IsExact (verdicts lines fuzz false state (h ∷ hs))
    → (spot lines fuzz false h state ≡ Some (at_line (base h))) × AllByRecursion IsExact (verdicts lines fuzz false (behind h state) hs)
first-exact lines fuzz state h hs e =
    let both = subst (AllByRecursion IsExact) (verdicts-cons lines fuzz state h hs) e in
    let is = exact-spot h (spot lines fuzz false h state) both.0 in
    (is, subst (λ o. AllByRecursion IsExact (verdicts lines fuzz false (after_hunk h state o) hs)) is both.1)

-- places that are exact are those that are stated
pub exact-spots : (lines : List (List ℕ)) (fuzz : ℕ) (state : PlaceState) (hs : List PlainHunk) → AllByRecursion IsExact (verdicts lines fuzz false state hs) → spots lines fuzz false state hs ≡ as_stated hs
exact-spots lines fuzz state [] e = spots-nil lines fuzz state
exact-spots lines fuzz state (h ∷ hs) e =
    let x = first-exact lines fuzz state h hs e in
    spots-cons lines fuzz state h hs
    ∙ ap (λ (o : Option Spot). o ∷ spots lines fuzz false (after_hunk h state o) hs) x.0
    ∙ ap (λ (os : List (Option Spot)). Some (at_line (base h)) ∷ os) (exact-spots lines fuzz (behind h state) hs x.1)

-- ---- from places to both lists

cut : (lines : List (List ℕ)) (q b p : ℕ) (olds : List (List ℕ)) → 1 ≤ q → q ≤ b → drop (b - 1) lines ≡ olds ++ drop (b - 1 + p) lines → drop (q - 1) lines ≡ take (b - q) (drop (q - 1) lines) ++ (olds ++ drop (b + p - 1) lines)
cut lines q b p olds low le on =
    let a : q - 1 + (b - q) ≡ b - 1 = omega arith in
    let z : b - 1 + p ≡ b + p - 1 = omega arith in
    sym (take-append-drop (b - q) (drop (q - 1) lines))
    ∙ ap (λ ls. take (b - q) (drop (q - 1) lines) ++ ls) (drop-drop (b - q) (q - 1) lines ∙ ap (λ k. drop k lines) a ∙ on ∙ ap (λ k. olds ++ drop k lines) z)

front-long : (lines : List (List ℕ)) (q b : ℕ) → 1 ≤ q → q ≤ b → b ≤ length lines + 1 → length (take (b - q) (drop (q - 1) lines)) ≡ b - q
front-long lines q b low le high = length-take-le (b - q) (drop (q - 1) lines) (omega (arith, length-drop (q - 1) lines))

-- what hunks that are placed exactly make of the lines from line q on
pub made : (lines : List (List ℕ)) (fuzz : ℕ) (state : PlaceState) (q r : ℕ) (net : ℤ) (hs : List PlainHunk) → 1 ≤ q → q ≤ length lines + 1 → pos r ≡ pos q +ℤ net
    → AllByRecursion IsExact (verdicts lines fuzz false state hs) → FollowNet net hs → StandApart q hs → EndOnlyLast hs
    → (new : List (List ℕ)) × Turns q r (drop (q - 1) lines) new hs
made lines fuzz state q r net [] low room moved e bases apart last = (drop (q - 1) lines, refl)
made lines fuzz state q r net (h ∷ hs) low room moved e bases apart last =
    let x = first-exact lines fuzz state h hs e in
    let at = spot-stands lines fuzz (base h) h state x.0 in
    let front : List (List ℕ) = take (base h - q) (drop (q - 1) lines) in
    let long : length front ≡ base h - q = front-long lines q (base h) low apart.0 (omega (arith, at.high)) in
    let next : pos (base (swapped h) + length (new_lines h.body)) ≡ pos (base h + length (old_lines h.body)) +ℤ (net +ℤ (pos (adds h) -ℤ pos (drops h))) = omega (arith, ints, bases.0, sides-balance h) in
    let later = made lines fuzz (behind h state) (base h + length (old_lines h.body)) (base (swapped h) + length (new_lines h.body)) (net +ℤ (pos (adds h) -ℤ pos (drops h))) hs (omega (arith, at.low)) at.high next x.1 bases.1 apart.1 last.1 in
    let rest : List (List ℕ) = drop (base h + length (old_lines h.body) - 1) lines in
    let t : Turn q r (drop (q - 1) lines) (front ++ (new_lines h.body ++ later.0)) h hs front rest later.0 = record {
      from = cut lines q (base h) (length (old_lines h.body)) (old_lines h.body) low apart.0 at.on;
      to = refl;
      old_base = omega (arith, long, apart.0);
      new_base = omega (arith, ints, long, apart.0, bases.0, moved);
      last = λ less.
          let none : hs ≡ [] = last.0 less in
          let all : rest ≡ [] = drop_all (base h + length (old_lines h.body) - 1) lines (omega (arith, at.last less)) in
          (all, (sym (subst (λ ks. Turns (base h + length (old_lines h.body)) (base (swapped h) + length (new_lines h.body)) rest later.0 ks) none later.1) ∙ all, none));
    } in
    (front ++ (new_lines h.body ++ later.0), (front, (rest, (later.0, (t, later.1)))))

-- ---- from both lists to places

pub stands-at : (lines : List (List ℕ)) (q r : ℕ) (old new : List (List ℕ)) (h : PlainHunk) (hs : List PlainHunk) (front rest more : List (List ℕ)) → 1 ≤ q → q ≤ length lines + 1 → drop (q - 1) lines ≡ old → Turn q r old new h hs front rest more
    → Stands lines h (base h) × (drop (base h + length (old_lines h.body) - 1) lines ≡ rest)
stands-at lines q r old new h hs front rest more low room is t =
    let p : ℕ = length (old_lines h.body) in
    let whole : drop (q - 1) lines ≡ front ++ (old_lines h.body ++ rest) = is ∙ t.from in
    let count : length lines - (q - 1) ≡ length front + (p + length rest) = sym (length-drop (q - 1) lines) ∙ ap length whole ∙ length-append front (old_lines h.body ++ rest) ∙ ap (λ k. length front + k) (length-append (old_lines h.body) rest) in
    let a : q - 1 + length front ≡ base h - 1 = omega (arith, t.old_base) in
    let here : drop (base h - 1) lines ≡ old_lines h.body ++ rest = ap (λ k. drop k lines) (sym a) ∙ sym (drop-drop (length front) (q - 1) lines) ∙ ap (drop (length front)) whole ∙ drop-append_seam front (old_lines h.body ++ rest) in
    let behind_old : drop (base h - 1 + p) lines ≡ rest = sym (drop-drop p (base h - 1) lines) ∙ ap (drop p) here ∙ drop-append_seam (old_lines h.body) rest in
    let z : base h - 1 + p ≡ base h + p - 1 = omega (arith, t.old_base) in
    let at : Stands lines h (base h) = record {
      low = omega (arith, t.old_base);
      high = omega (arith, t.old_base, count);
      on = here ∙ ap (λ ls. old_lines h.body ++ ls) (sym behind_old);
      last = λ less. let none : length rest ≡ 0 = ap length (t.last less).0 in omega (arith, t.old_base, count, none);
    } in
    (at, ap (λ k. drop k lines) (sym z) ∙ behind_old)

consumed-less : (h : PlainHunk) (state : PlaceState) → state.consumed < base h → (behind h state).consumed < base h + length (old_lines h.body)
consumed-less h state less = by ((adds h == 0) && (drops h == 0))
  where
    by : (b : Bool) → cond b state.consumed ((base h - 1 + length (old_lines h.body)) - trailing h.body) < base h + length (old_lines h.body)
    by true = omega (arith, less)
    by false = omega (arith, less)

-- hunks whose old lines stand at their bases are placed there
pub turned-exact : (lines : List (List ℕ)) (fuzz : ℕ) (state : PlaceState) (q r : ℕ) (old new : List (List ℕ)) (hs : List PlainHunk) → 1 ≤ q → q ≤ length lines + 1 → drop (q - 1) lines ≡ old → Turns q r old new hs
    → state.consumed < q → state.offset ≡ pos 0 → AllByRecursion IsExact (verdicts lines fuzz false state hs)
turned-exact lines fuzz state q r old new [] low room is ts behind_all still = subst (AllByRecursion IsExact) (sym (verdicts-nil lines fuzz state)) tt
turned-exact lines fuzz state q r old new (h ∷ hs) low room is (front, (rest, (more, (t, ts)))) behind_all still =
    let at = stands-at lines q r old new h hs front rest more low room is t in
    let less : state.consumed < base h = omega (arith, t.old_base, behind_all) in
    let placed : spot lines fuzz false h state ≡ Some (at_line (base h)) = stands-spot lines fuzz h state at.0 less still in
    let again = turned-exact lines fuzz (behind h state) (base h + length (old_lines h.body)) (base (swapped h) + length (new_lines h.body)) rest more hs (omega (arith, at.0.low)) at.0.high at.1 ts (consumed-less h state less) (omega (arith, ints)) in
    subst (AllByRecursion IsExact) (sym (verdicts-cons lines fuzz state h hs))
    (spot-exact h (spot lines fuzz false h state) placed, subst (λ o. AllByRecursion IsExact (verdicts lines fuzz false (after_hunk h state o) hs)) (sym placed) again)
