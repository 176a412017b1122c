-- Names with one directory in front of them.
use Rattle.std.proofs.Common.{◌≡◌, ℕ, ◌+◌, ⊎_elim, List, [], ◌∷◌, ◌++◌, length, Bool, false, ltb, refl, sym, ap, ◌∙◌, arith, length-append}
use Rattle.std.proofs.lemmas.Bool.{cases_order, cases_lt, lt-ltb, le-ltb}
use Rattle.outside.specs.Names.{components, last_of, is_empty}
use Rattle.outside.proofs.Components.{components_slash, components_some}
use Rattle.name_choice.specs.Better.{component_count, last_length, is_shorter, is_better}
use Rattle.name_choice.proofs.Best.{lex, lex-less, lex-more, lex-same}

-- both counts larger by as much
lex-shift : (k m n : ℕ) (t : Bool) → lex (k + m) (k + n) t ≡ lex m n t
lex-shift k m n t = ⊎_elim
    (λ e. lex-same (k + m) (k + n) t (omega (arith, e)) ∙ sym (lex-same m n t e))
    (λ ne. ⊎_elim
    (λ lt. lex-less (k + m) (k + n) t (omega (arith, lt)) ∙ sym (lex-less m n t lt))
    (λ gt. lex-more (k + m) (k + n) t (omega (arith, gt)) ∙ sym (lex-more m n t gt))
    ne)
    (cases_order m n)

less-shift : (k m n : ℕ) → ltb (k + m) (k + n) ≡ ltb m n
less-shift k m n = ⊎_elim
    (λ lt. lt-ltb (k + m) (k + n) (omega (arith, lt)) ∙ sym (lt-ltb m n lt))
    (λ le. le-ltb (k + m) (k + n) (omega (arith, le)) ∙ sym (le-ltb m n le))
    (cases_lt m n)

last-append : (cs ds : List (List ℕ)) → is_empty ds ≡ false → last_of (cs ++ ds) ≡ last_of ds
last-append [] ds some = refl
last-append (c ∷ []) [] some = cc
last-append (c ∷ []) (d ∷ ds) some = refl
last-append (c ∷ e ∷ cs) ds some = last-append (e ∷ cs) ds some

module _ (d a : List ℕ) where
  count-front : component_count (d ++ 47 ∷ a) ≡ length (components d) + component_count a
  count-front = ap length (components_slash d a) ∙ length-append (components d) (components a)

  last-front : last_length (d ++ 47 ∷ a) ≡ last_length a
  last-front = ap (λ cs. length (last_of cs)) (components_slash d a) ∙ ap length (last-append (components d) (components a) (components_some a))

  length-front : length (d ++ 47 ∷ a) ≡ (length d + 1) + length a
  length-front = length-append d (47 ∷ a) ∙ omega arith

-- the better of two names is so below a directory too
pub front-law : (d a b : List ℕ) → is_better (d ++ 47 ∷ a) (d ++ 47 ∷ b) ≡ is_better a b
front-law d a b =
    let shorter : is_shorter (d ++ 47 ∷ a) (d ++ 47 ∷ b) ≡ is_shorter a b = rw (length-front d a, length-front d b) (less-shift (length d + 1) (length a) (length b)) in
    let t : Bool = lex (last_length a) (last_length b) (is_shorter a b) in
    rw (count-front d a, count-front d b, last-front d a, last-front d b, shorter) (lex-shift (length (components d)) (component_count a) (component_count b) t)
