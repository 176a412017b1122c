-- One step of a walk, at places of a pattern and a name.
use Rattle.std.proofs.Common.{◌≡◌, ℕ, ◌+◌, ◌-◌, ◌*◌, ◌<◌, ◌≤◌, true, false, cond, List, [], ◌∷◌, length, get_or, drop, refl, sym, ap, ◌∙◌, arith}
use Rattle.std.proofs.Math.Nat.{mul-le-mul_right}
use Rattle.std.proofs.lemmas.List.{drop_more, drop_all}
use Rattle.glob_match.specs.Pattern.{Element, Run, elements}
use Rattle.glob_match.specs.Matching.{takes}
use Rattle.glob_match.specs.Walking.{plain, IsRead, Stop, Done, Met, walked}
use Rattle.glob_match.specs.declared.Piece.{Piece}
use Rattle.glob_match.specs.declared.Piece.TheVariants.{Run as RunPiece, Any as AnyPiece, Byte as BytePiece, OneOf as OneOfPiece}
use Rattle.glob_match.specs.declared.Read.{Read}
use Rattle.glob_match.proofs.PatternLemmas.{elements-at, elements-none}

run-step : (es : List Element) (bs : List ℕ) → walked (Run ∷ es) bs ≡ Met es bs
unfolding walked
run-step es bs = refl

none-step : (bs : List ℕ) → walked [] bs ≡ Done bs
unfolding walked
none-step bs = refl

end-step : (p : Piece) (pattern : List ℕ) (es : List Element) → (p ≡ RunPiece → ⊥) → walked (plain pattern p ∷ es) [] ≡ Stop
unfolding walked
end-step RunPiece pattern es ne = absurd (ne refl)
end-step AnyPiece pattern es ne = refl
end-step (BytePiece c) pattern es ne = refl
end-step (OneOfPiece o s e) pattern es ne = refl

byte-step : (p : Piece) (pattern : List ℕ) (es : List Element) (b : ℕ) (bs : List ℕ) → (p ≡ RunPiece → ⊥) → walked (plain pattern p ∷ es) (b ∷ bs) ≡ cond (takes (plain pattern p) b) (walked es bs) Stop
unfolding walked
byte-step RunPiece pattern es b bs ne = absurd (ne refl)
byte-step AnyPiece pattern es b bs ne = refl
byte-step (BytePiece c) pattern es b bs ne = refl
byte-step (OneOfPiece o s e) pattern es b bs ne = refl

module _ (pattern : List ℕ) (at : ℕ) (read : Read) (lt : at < length pattern) (r : IsRead pattern at read) where
  front : elements (drop at pattern) ≡ plain pattern read.piece ∷ elements (drop read.next pattern)
  front = elements-at pattern at read.next lt r.next r.low ∙ ap (λ e. e ∷ elements (drop read.next pattern)) (sym r.element)

  pub walk-run : (bs : List ℕ) → read.piece ≡ RunPiece → walked (elements (drop at pattern)) bs ≡ Met (elements (drop read.next pattern)) bs
  walk-run bs e = ap (λ es. walked es bs) (front ∙ ap (λ p. plain pattern p ∷ elements (drop read.next pattern)) e) ∙ run-step (elements (drop read.next pattern)) bs

  pub walk-end : (name : List ℕ) (place : ℕ) → (read.piece ≡ RunPiece → ⊥) → length name ≤ place → walked (elements (drop at pattern)) (drop place name) ≡ Stop
  walk-end name place ne le = ap (λ es. walked es (drop place name)) front ∙ ap (λ bs. walked (plain pattern read.piece ∷ elements (drop read.next pattern)) bs) (drop_all place name le) ∙ end-step read.piece pattern (elements (drop read.next pattern)) ne

  step : (name : List ℕ) (place : ℕ) → (read.piece ≡ RunPiece → ⊥) → place < length name → walked (elements (drop at pattern)) (drop place name) ≡ cond (takes (plain pattern read.piece) (get_or name place 0)) (walked (elements (drop read.next pattern)) (drop (place + 1) name)) Stop
  step name place ne less = ap (λ es. walked es (drop place name)) front ∙ ap (λ bs. walked (plain pattern read.piece ∷ elements (drop read.next pattern)) bs) (drop_more name place 0 less)
      ∙ byte-step read.piece pattern (elements (drop read.next pattern)) (get_or name place 0) (drop (place + 1) name) ne

  pub walk-other : (name : List ℕ) (place : ℕ) → (read.piece ≡ RunPiece → ⊥) → place < length name → takes (plain pattern read.piece) (get_or name place 0) ≡ false → walked (elements (drop at pattern)) (drop place name) ≡ Stop
  walk-other name place ne less e = step name place ne less ∙ (rw e refl)

  pub walk-takes : (name : List ℕ) (place : ℕ) → (read.piece ≡ RunPiece → ⊥) → place < length name → takes (plain pattern read.piece) (get_or name place 0) ≡ true → walked (elements (drop at pattern)) (drop place name) ≡ walked (elements (drop read.next pattern)) (drop (place + 1) name)
  walk-takes name place ne less e = step name place ne less ∙ (rw e refl)

pub walk-none : (pattern : List ℕ) (at : ℕ) (bs : List ℕ) → length pattern ≤ at → walked (elements (drop at pattern)) bs ≡ Done bs
walk-none pattern at bs le = ap (λ p. walked (elements p) bs) (drop_all at pattern le) ∙ ap (λ es. walked es bs) elements-none ∙ none-step bs

pub falls : (p n at next place further : ℕ) → at < next → next ≤ p → place ≤ n → further ≤ n → (p - next) * (n + 1) + (n - further) < (p - at) * (n + 1) + (n - place)
falls p n at next place further lt le h k =
    let more : (p - next + 1) * (n + 1) ≤ (p - at) * (n + 1) = mul-le-mul_right (n + 1) (omega arith) in
    let a : (p - next + 1) * (n + 1) ≡ (p - next) * (n + 1) + (n + 1) = grind arith in
    omega (arith, more, a)
