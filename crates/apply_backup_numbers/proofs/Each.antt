-- Two lists whose pairs are walked one after another.
use Rattle.std.proofs.Common.{◌≡◌, ℕ, ◌+◌, ◌<◌, List, [], ◌∷◌, ◌++◌, take, drop, length, get_or, set, suc, sym, refl, ap, ◌∙◌, subst, arith}
use Rattle.std.proofs.lemmas.List.{take_more, take_more_set, drop-set-lt, drop-drop, get_or-drop, take_all, append-nil}
use Rattle.std.proofs.Math.Seq.{drop-length}
use Rattle.apply_backup_numbers.specs.Renumbered.{Each}

each-more : {A : Type 0} (R : A → A → Type 0) (xs ys : List A) (x y : A) → Each R xs ys → R x y → Each R (xs ++ x ∷ []) (ys ++ y ∷ [])
each-more R [] [] x y each one = (one, tt)
each-more R [] (b ∷ ys) x y each one = absurd each
each-more R (a ∷ xs) [] x y each one = absurd each
each-more R (a ∷ xs) (b ∷ ys) x y each one = (each.0, each-more R xs ys x y each.1 one)

pub each-long : {A : Type 0} (R : A → A → Type 0) (xs ys : List A) → Each R xs ys → length ys ≡ length xs
each-long R [] [] each = refl
each-long R [] (b ∷ ys) each = absurd each
each-long R (a ∷ xs) [] each = absurd each
each-long R (a ∷ xs) (b ∷ ys) each = ap suc (each-long R xs ys each.1)

-- up to a place they are what they became, behind it what they were
pub record AreWalked {A : Type 0} (R : A → A → Type 0) (i : ℕ) (xs ys : List A) : Type 0 where
  pub first : Each R (take i xs) (take i ys)
  pub rest : drop i ys ≡ drop i xs

at-front : {A : Type 0} (i : ℕ) (ps : List A) (p : A) → get_or (drop i ps) 0 p ≡ get_or ps i p
at-front i ps p = let same : i + 0 ≡ i = omega arith in get_or-drop i ps 0 p ∙ ap (λ k. get_or ps k p) same

pub walked-none : {A : Type 0} (R : A → A → Type 0) (xs : List A) → AreWalked R 0 xs xs
walked-none R xs = record { first = tt; rest = refl }

pub walked-more : {A : Type 0} (R : A → A → Type 0) (i : ℕ) (xs ys : List A) (x y : A) → length ys ≡ length xs → i < length xs → x ≡ get_or ys i x → R x y → AreWalked R i xs ys → AreWalked R (i + 1) xs (set ys i y)
walked-more R i xs ys x y same lt here one w =
    let there : x ≡ get_or xs i x = here ∙ sym (at-front i ys x) ∙ ap (λ l. get_or l 0 x) w.rest ∙ at-front i xs x in
    let more : take (i + 1) xs ≡ take i xs ++ x ∷ [] = take_more xs i x lt ∙ ap (λ r. take i xs ++ r ∷ []) (sym there) in
    record {
      first = rw (more, take_more_set ys i y (omega arith)) (each-more R (take i xs) (take i ys) x y w.first one);
      rest = drop-set-lt (i + 1) ys i y (omega arith) ∙ sym (drop-drop 1 i ys) ∙ ap (λ l. drop 1 l) w.rest ∙ drop-drop 1 i xs;
    }

pub walked-all : {A : Type 0} (R : A → A → Type 0) (i : ℕ) (xs ys : List A) → length ys ≡ length xs → length xs ≡ i → AreWalked R i xs ys → Each R xs ys
walked-all R i xs ys same all w =
    subst (λ (l : List _). Each R l ys) (take_all i xs (omega arith)) (subst (λ (l : List _). Each R (take i xs) l) (take_all i ys (omega arith)) w.first)

-- what a vector holds once all of it was lent and given back
pub all-back : {A : Type 0} (n : ℕ) (news olds : List A) → length news ≡ length olds → n ≡ length olds → take n (news ++ drop (length news) olds) ≡ news
all-back n news olds same count =
    let none : drop (length news) olds ≡ [] = ap (λ k. drop k olds) same ∙ drop-length olds in
    ap (λ l. take n (news ++ l)) none ∙ ap (λ l. take n l) (append-nil news) ∙ take_all n news (omega arith)
