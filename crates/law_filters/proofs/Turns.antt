-- Two lists that differ by the hunks of a file patch, seen from both at once.
use Rattle.std.proofs.Common.{◌≡◌, ℕ, ◌+◌, ◌<◌, List, [], ◌∷◌, ◌++◌, length, map, sym, ap, subst, ◌∙◌}
use Rattle.hunk_core.specs.PlainHunk.{PlainHunk, old_lines, new_lines}
use Rattle.hunk_core.specs.Turned.{base, leading, trailing, swapped}
use Rattle.law_filters.proofs.Sides.{swapped-old, swapped-new, swapped-twice, swapped-leading, swapped-trailing}

-- from line q of one list and line r of the other on, a hunk follows lines that both have: its old lines there and its new lines here; where more context leads than trails, nothing follows
pub record Turn (q r : ℕ) (old new : List (List ℕ)) (h : PlainHunk) (hs : List PlainHunk) (front rest more : List (List ℕ)) : Type 0 where
  pub from : old ≡ front ++ (old_lines h.body ++ rest)
  pub to : new ≡ front ++ (new_lines h.body ++ more)
  pub old_base : base h ≡ q + length front
  pub new_base : base (swapped h) ≡ r + length front
  pub last : trailing h.body < leading h.body → (rest ≡ []) × ((more ≡ []) × (hs ≡ []))

abbrev pub Turns : ℕ → ℕ → List (List ℕ) → List (List ℕ) → List PlainHunk → Type 0
Turns q r old new [] = old ≡ new
Turns q r old new (h ∷ hs) = (front : List (List ℕ)) × ((rest : List (List ℕ)) × ((more : List (List ℕ)) × (Turn q r old new h hs front rest more × Turns (base h + length (old_lines h.body)) (base (swapped h) + length (new_lines h.body)) rest more hs)))

none-swapped : (hs : List PlainHunk) → hs ≡ [] → map swapped hs ≡ []
none-swapped hs e = ap (map swapped) e

turn-back : (q r : ℕ) (old new : List (List ℕ)) (h : PlainHunk) (hs : List PlainHunk) (front rest more : List (List ℕ)) → Turn q r old new h hs front rest more → Turn r q new old (swapped h) (map swapped hs) front more rest
turn-back q r old new h hs front rest more t = record {
  from = t.to ∙ ap (λ (ls : List (List ℕ)). front ++ (ls ++ more)) (sym (swapped-old h));
  to = t.from ∙ ap (λ (ls : List (List ℕ)). front ++ (ls ++ rest)) (sym (swapped-new h));
  old_base = t.new_base;
  new_base = ap base (swapped-twice h) ∙ t.old_base;
  last = λ less. let none = t.last (subst (λ k. k < leading h.body) (swapped-trailing h) (subst (λ k. trailing (swapped h).body < k) (swapped-leading h) less)) in (none.1.0, (none.0, none-swapped hs none.1.1));
}

-- the same, seen from the other list
pub turns-back : (q r : ℕ) (old new : List (List ℕ)) (hs : List PlainHunk) → Turns q r old new hs → Turns r q new old (map swapped hs)
turns-back q r old new [] t = sym t
turns-back q r old new (h ∷ hs) (front, (rest, (more, (t, ts)))) =
    let a : base (swapped h) + length (new_lines h.body) ≡ base (swapped h) + length (old_lines (swapped h).body) = ap (λ (ls : List (List ℕ)). base (swapped h) + length ls) (sym (swapped-old h)) in
    let b : base h + length (old_lines h.body) ≡ base (swapped (swapped h)) + length (new_lines (swapped h).body) =
    ap (λ (x : PlainHunk). base x + length (old_lines h.body)) (sym (swapped-twice h)) ∙ ap (λ (ls : List (List ℕ)). base (swapped (swapped h)) + length ls) (sym (swapped-new h)) in
    let again = turns-back (base h + length (old_lines h.body)) (base (swapped h) + length (new_lines h.body)) rest more hs ts in (
      front,
      (
        more,
        (
          rest,
          (
            turn-back q r old new h hs front rest more t,
            subst (λ k. Turns (base (swapped h) + length (old_lines (swapped h).body)) k more rest (map swapped hs)) b (subst (λ k. Turns k (base h + length (old_lines h.body)) more rest (map swapped hs)) a again),
          ),
        ),
      ),
    )
