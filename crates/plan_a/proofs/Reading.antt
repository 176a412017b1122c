-- The lines of a text, read one after another.
use Rattle.std.proofs.Common.{◌≡◌, ℕ, suc, ◌+◌, ◌-◌, ◌<◌, ◌≤◌, List, [], ◌∷◌, ◌++◌, length, get_or, drop, slice_range, refl, sym, ap, subst, ◌∙◌, arith, inl, inr, length-append}
use Rattle.std.proofs.lemmas.Bool.{cases_eq}
use Rattle.std.proofs.lemmas.List.{length-drop}
use Rattle.std.proofs.Math.ListN.{get_or-append}
use Rattle.std.proofs.Math.Seq.{get_or-append_seam}
use Rattle.std.proofs.lemmas.List.{length-take}
use Rattle.line_list.specs.Lines.{lines, IsLineAt}
use Rattle.line_list.proofs.Elements.{front-is, front-rest, front-within}
use Rattle.plan_a.specs.Cut.{IsPiece, IsCut, from_of, to_of}

-- k lines stand before a place in a text
pub record IsRead (text : List ℕ) (at k : ℕ) : Type 0 where
  pub rest : lines (drop at text) ≡ drop k (lines text)
  pub few : k ≤ at
  pub within : at ≤ length text
  pub most : k ≤ length (lines text)

pub read-start : (text : List ℕ) → IsRead text 0 0
read-start text = record { rest = refl; few = omega arith; within = omega arith; most = omega arith }

here : (text : List ℕ) (at end k : ℕ) → IsRead text at k → IsLineAt text at end → drop k (lines text) ≡ slice_range text at end ∷ lines (drop end text)
here text at end k r l = sym r.rest ∙ l.first

pub read-within : (text : List ℕ) (at end k : ℕ) → IsRead text at k → IsLineAt text at end → k < length (lines text)
read-within text at end k r l = front-within (lines text) (lines (drop end text)) (slice_range text at end) k (here text at end k r l)

pub read-more : (text : List ℕ) (at end k : ℕ) → IsRead text at k → IsLineAt text at end → IsRead text end (k + 1)
read-more text at end k r l =
    let lt : k < length (lines text) = read-within text at end k r l in
    record {
      rest = sym (front-rest (lines text) (lines (drop end text)) (slice_range text at end) k (here text at end k r l));
      few = omega (arith, r.few, l.low);
      within = l.high;
      most = omega arith;
    }

pub read-piece : (text : List ℕ) (at end k : ℕ) → IsRead text at k → IsLineAt text at end → IsPiece text at end k
read-piece text at end k r l = record {
  low = omega (arith, l.low);
  high = l.high;
  is = front-is (lines text) (lines (drop end text)) (slice_range text at end) [] k (here text at end k r l);
}

pub read-length : (text : List ℕ) (at end k : ℕ) → IsPiece text at end k → length (get_or (lines text) k []) ≡ end - at
read-length text at end k p = ap length p.is ∙ (let a : at ≤ end = p.low in let b : end ≤ length text = p.high in simp (length-take, length-drop) (omega arith))

pub read-end : (text : List ℕ) (at k : ℕ) → IsRead text at k → (at ≡ length text) × (lines (drop at text) ≡ []) → k ≡ length (lines text)
read-end text at k r e =
    let a : length (drop k (lines text)) ≡ length (lines text) - k = length-drop k (lines text) in
    let b : length (drop k (lines text)) ≡ 0 = ap length (sym r.rest ∙ e.1) in
    omega (arith, r.most)

-- the ends so far
pub record IsCutSo (text ends : List ℕ) (at : ℕ) : Type 0 where
  pub read : IsRead text at (length ends)
  pub last : from_of ends (length ends) ≡ at
  pub each : (k : ℕ) → k < length ends → IsPiece text (from_of ends k) (to_of ends k) k

pub cut-start : (text : List ℕ) → IsCutSo text [] 0
cut-start text = record { read = read-start text; last = refl; each = λ k lt. absurd (omega arith) }

last_is : (ends : List ℕ) (end : ℕ) → get_or (0 ∷ (ends ++ end ∷ [])) (length ends + 1) 0 ≡ end
last_is ends end = (let e : length ends + 1 ≡ suc (length ends) = omega arith in ap (λ n. get_or (0 ∷ (ends ++ end ∷ [])) n 0) e) ∙ get_or-append_seam (0 ∷ ends) end [] 0

from_before : (ends : List ℕ) (end k : ℕ) → k ≤ length ends → from_of (ends ++ end ∷ []) k ≡ from_of ends k
from_before ends end k le = get_or-append (0 ∷ ends) (end ∷ []) 0 k (omega arith)

pub cut-more : (text ends : List ℕ) (at end : ℕ) → IsCutSo text ends at → IsLineAt text at end → IsCutSo text (ends ++ end ∷ []) end
cut-more text ends at end c l =
    let more : length (ends ++ end ∷ []) ≡ length ends + 1 = simp length-append (omega arith) in
    record {
      read = subst (IsRead text end) (sym more) (read-more text at end (length ends) c.read l);
      last = ap (λ n. get_or (0 ∷ (ends ++ end ∷ [])) n 0) more ∙ last_is ends end;
      each = λ k lt. elim (cases_eq k (length ends)) [
        | inl e ↦ subst (λ j. IsPiece text (from_of (ends ++ end ∷ []) j) (to_of (ends ++ end ∷ []) j) j) (sym e) (rw (from_before ends end (length ends) (omega arith), get_or-append_seam ends end [] 0, c.last) (read-piece text at end (length ends) c.read l))
        | inr ne ↦ rw (from_before ends end k (omega arith), get_or-append ends (end ∷ []) 0 k (omega arith)) (c.each k (omega arith))
      ];
    }

pub cut-end : (text ends : List ℕ) (at : ℕ) → IsCutSo text ends at → (at ≡ length text) × (lines (drop at text) ≡ []) → IsCut text ends
cut-end text ends at c e = record {
  count = read-end text at (length ends) c.read e;
  few = omega (arith, c.read.few, c.read.within);
  each = c.each;
}

pub lines-none : lines [] ≡ []
unfolding lines
lines-none = refl
