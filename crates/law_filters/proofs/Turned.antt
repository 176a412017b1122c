-- Hunks that are placed exactly, and the same turned round.
use Rattle.std.proofs.Common.{◌≡◌, ℕ, List, [], ◌∷◌, map, refl, sym, ap, subst, ◌∙◌, arith}
use Rattle.std.specs.Prelude.{pos}
use Rattle.std.proofs.lemmas.Int.{ints}
use Rattle.hunk_core.specs.PlainHunk.{PlainHunk}
use Rattle.hunk_core.specs.Turned.{base, swapped}
use Rattle.hunk_place.specs.Verdicts.{at_start}
use Rattle.hunk_apply.specs.Splice.{all_edits, spliced}
use Rattle.hunk_apply.proofs.SpliceLemmas.{spliced-whole}
use Rattle.law_filters.specs.Turnable.{ArePlacedExactly, AreTurnable, StandApart, edits_in}
use Rattle.law_filters.proofs.Placed.{exact-spots, first-exact, made, turned-exact}
use Rattle.law_filters.proofs.Splicing.{spliced-turns, stated_edits}
use Rattle.law_filters.proofs.Standing.{spot-stands}
use Rattle.law_filters.proofs.Turns.{Turns, turns-back}

from-one : (ls : List (List ℕ)) (fuzz : ℕ) (hs : List PlainHunk) → ArePlacedExactly ls fuzz hs → StandApart 0 hs → StandApart 1 hs
from-one ls fuzz [] e apart = tt
from-one ls fuzz (h ∷ hs) e apart = ((spot-stands ls fuzz (base h) h at_start (first-exact ls fuzz at_start h hs e).0).low, apart.1)

-- both lists
pub both : (ls : List (List ℕ)) (fuzz : ℕ) (hs : List PlainHunk) → ArePlacedExactly ls fuzz hs → AreTurnable hs → (new : List (List ℕ)) × Turns 1 1 ls new hs
both ls fuzz hs e t = made ls fuzz at_start 1 1 (pos 0) hs (omega arith) (omega arith) (omega (arith, ints)) e t.new_bases (from-one ls fuzz hs e t.apart) t.last

pub new-is : (ls new : List (List ℕ)) (fuzz : ℕ) (hs : List PlainHunk) → ArePlacedExactly ls fuzz hs → Turns 1 1 ls new hs → spliced ls (edits_in ls fuzz hs) ≡ new
new-is ls new fuzz hs e ts =
    ap (λ ps. spliced ls (all_edits ps hs)) (exact-spots ls fuzz at_start hs e)
    ∙ spliced-whole ls (stated_edits hs) ∙ spliced-turns ls 1 1 ls new hs (omega arith) (omega arith) refl ts

pub placed-back : (ls new : List (List ℕ)) (most : ℕ) (hs : List PlainHunk) → Turns 1 1 ls new hs → ArePlacedExactly new most (map swapped hs)
placed-back ls new most hs ts = turned-exact new most at_start 1 1 new ls (map swapped hs) (omega arith) (omega arith) refl (turns-back 1 1 ls new hs ts) (omega arith) refl

pub placed-law : (ls : List (List ℕ)) (fuzz most : ℕ) (hs : List PlainHunk) → ArePlacedExactly ls fuzz hs → AreTurnable hs → ArePlacedExactly (spliced ls (edits_in ls fuzz hs)) most (map swapped hs)
placed-law ls fuzz most hs e t =
    let w = both ls fuzz hs e t in
    subst (λ new. ArePlacedExactly new most (map swapped hs)) (sym (new-is ls w.0 fuzz hs e w.1)) (placed-back ls w.0 most hs w.1)

back-is : (ls new : List (List ℕ)) (most : ℕ) (hs : List PlainHunk) → Turns 1 1 ls new hs → spliced new (edits_in new most (map swapped hs)) ≡ ls
back-is ls new most hs ts = new-is new ls most (map swapped hs) (placed-back ls new most hs ts) (turns-back 1 1 ls new hs ts)

pub undone-law : (ls : List (List ℕ)) (fuzz most : ℕ) (hs : List PlainHunk) → ArePlacedExactly ls fuzz hs → AreTurnable hs
    → spliced (spliced ls (edits_in ls fuzz hs)) (edits_in (spliced ls (edits_in ls fuzz hs)) most (map swapped hs)) ≡ ls
undone-law ls fuzz most hs e t =
    let w = both ls fuzz hs e t in
    ap (λ new. spliced new (edits_in new most (map swapped hs))) (new-is ls w.0 fuzz hs e w.1) ∙ back-is ls w.0 most hs w.1
