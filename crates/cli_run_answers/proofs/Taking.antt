-- Pieces taken from a source one after another.
use Rattle.std.proofs.Common.{◌≡◌, ℕ, ◌+◌, ◌≤◌, List, [], ◌++◌, length, take, drop, Some, None, is_some, refl, sym, ap, ◌∙◌, arith, append_assoc, length-append}
use Rattle.std.proofs.lemmas.Bool.{false≢true}
use Rattle.std.proofs.lemmas.Option.{same_Some}
use Rattle.std.proofs.lemmas.List.{length-take, take-append-drop, take-append-le}
use Rattle.std.proofs.Math.Seq.{drop-append_seam, drop-nil}
use Rattle.outside.specs.SourceView.{SourceView, SourcePasses, source_passes_both}
use Rattle.cli_run_answers.specs.Input.{Takes, TakesAtMost, IsAtEnd}

-- what a call took of what was left
pub takes-read : (s r : SourceView) (n : ℕ) (bytes : List ℕ) → SourcePasses s r → ((left : List ℕ) → s.told ≡ Some left → bytes ≡ take n left) → ((left : List ℕ) → s.told ≡ Some left → r.told ≡ Some (drop n left)) → Takes s r bytes
takes-read s r n bytes p b t = record {
  passes = p;
  told = λ left is. (drop n left, sym (ap (λ x. x ++ drop n left) (b left is) ∙ take-append-drop n left), t left is);
}

-- the same where it lies at the front of a buffer
pub takes-front : (s r : SourceView) (n : ℕ) (front rest : List ℕ) → SourcePasses s r → n ≤ length front → ((left : List ℕ) → s.told ≡ Some left → (n ≤ length left) × (take n front ≡ take n left)) → ((left : List ℕ) → s.told ≡ Some left → r.told ≡ Some (drop n left)) → Takes s r (take n (front ++ rest))
takes-front s r n front rest p le b t = takes-read s r n (take n (front ++ rest)) p (λ left is. take-append-le n front rest le ∙ (b left is).1) t

-- nothing is left where a call found nothing
pub end-found : (s r : SourceView) (n : ℕ) → SourcePasses s r → ((left : List ℕ) → s.told ≡ Some left → left ≡ []) → ((left : List ℕ) → s.told ≡ Some left → r.told ≡ Some (drop n left)) → IsAtEnd r
end-found s r n p e t left is = elim s.told as (λ o. s.told ≡ o → left ≡ []) [
  | None ↦ λ none. absurd (false≢true (sym (ap is_some none) ∙ sym p.telling ∙ ap is_some is))
  | Some l ↦ λ some. same_Some _ _ (sym is ∙ t l some) ∙ ap (drop n) (e l some) ∙ drop-nil n
] refl

pub takes-both : (s r q : SourceView) (a b : List ℕ) → Takes s r a → Takes r q b → Takes s q (a ++ b)
takes-both s r q a b x y = record {
  passes = source_passes_both x.passes y.passes;
  told = λ left is.
      let first = x.told left is in
      let second = y.told first.0 first.2 in
      (second.0, first.1 ∙ ap (λ z. a ++ z) second.1 ∙ sym (append_assoc a b second.0), second.2);
}

pub takes-few : (s r : SourceView) (a : List ℕ) (most : ℕ) → Takes s r a → length a ≤ most → TakesAtMost most s r
takes-few s r a most x le = λ left is.
    let taken = x.told left is in
    (length a, le, taken.2 ∙ ap Some (sym (ap (drop (length a)) taken.1 ∙ drop-append_seam a taken.0)))

-- a call of at most n bytes more
pub takes-more : (s r q : SourceView) (a b : List ℕ) (n most : ℕ) → Takes s r a → Takes r q (take n b) → length a + n ≤ most → TakesAtMost most s q
takes-more s r q a b n most x y le =
    let short : length (take n b) ≤ n = rw (length-take n b) (omega arith) in
    takes-few s q (a ++ take n b) most (takes-both s r q a (take n b) x y) (rw length-append (omega (arith, le, short)))
