-- The new directories of a name with a directory in front of it.
use Rattle.std.proofs.Common.{◌≡◌, ℕ, zero, suc, ◌+◌, ◌-◌, ◌<◌, ◌≤◌, List, [], ◌∷◌, ◌++◌, length, take, Bool, false, cond, not, refl, sym, ap, ◌∙◌, arith, length-append, append_assoc}
use Rattle.std.specs.Prelude.{count_by, flat_map}
use Rattle.std.specs.List.{range_with_len, join_with_byte}
use Rattle.std.proofs.lemmas.List.Sums.{sum_by-cons}
use Rattle.std.proofs.lemmas.List.{take-append-le, append-nil}
use Rattle.std.proofs.Math.Seq.{take-append-add}
use Rattle.std.proofs.lemmas.Grind.{flat_map-append}
use Rattle.outside.specs.Files.{Files}
use Rattle.outside.specs.Names.{components, is_empty, directory_text}
use Rattle.outside.proofs.Components.{components_slash, components_some, joined}
use Rattle.name_choice.specs.Choice.{has_file_below, is_new_directory, new_directories, new_in_front, new_behind}

-- ---- counts over ranges

count-cons : (p : ℕ → Bool) (x : ℕ) (xs : List ℕ) → count_by p (x ∷ xs) ≡ cond (p x) 1 0 + count_by p xs
count-cons p x xs = sum_by-cons (λ y. cond (p y) 1 0) x xs

parted : (p : ℕ → Bool) (a m n : ℕ) → count_by p (range_with_len a (m + n)) ≡ count_by p (range_with_len a m) + count_by p (range_with_len (a + m) n)
parted p a zero n =
    let none : zero + n ≡ n = omega arith in
    let here : a ≡ a + zero = omega arith in
    ap (λ k. count_by p (range_with_len a k)) none ∙ ap (λ k. count_by p (range_with_len k n)) here ∙ omega arith
parted p a (suc m) n =
    let one : suc m + n ≡ suc (m + n) = omega arith in
    let later : (a + 1) + m ≡ a + suc m = omega arith in
    let rest : count_by p (range_with_len (a + 1) (m + n)) ≡ count_by p (range_with_len (a + 1) m) + count_by p (range_with_len (a + suc m) n) = parted p (a + 1) m n ∙ ap (λ k. count_by p (range_with_len (a + 1) m) + count_by p (range_with_len k n)) later in
    let all : count_by p (range_with_len a (suc (m + n))) ≡ cond (p a) 1 0 + count_by p (range_with_len (a + 1) (m + n)) = count-cons p a (range_with_len (a + 1) (m + n)) in
    let front : count_by p (range_with_len a (suc m)) ≡ cond (p a) 1 0 + count_by p (range_with_len (a + 1) m) = count-cons p a (range_with_len (a + 1) m) in
    ap (λ k. count_by p (range_with_len a k)) one ∙ omega (arith, all, front, rest)

alike : (p q : ℕ → Bool) (a b n : ℕ) → ((i : ℕ) → i < n → p (a + i) ≡ q (b + i)) → count_by p (range_with_len a n) ≡ count_by q (range_with_len b n)
alike p q a b zero each = refl
alike p q a b (suc n) each =
    let here : p a ≡ q b = (let x : a ≡ a + 0 = omega arith in let y : b + 0 ≡ b = omega arith in ap p x ∙ each 0 (omega arith) ∙ ap q y) in
    let rest : count_by p (range_with_len (a + 1) n) ≡ count_by q (range_with_len (b + 1) n) = alike p q (a + 1) (b + 1) n
    (λ i lt. let x : (a + 1) + i ≡ a + suc i = omega arith in let y : b + suc i ≡ (b + 1) + i = omega arith in ap p x ∙ each (suc i) (omega (arith, lt)) ∙ ap q y) in
    let left : count_by p (range_with_len a (suc n)) ≡ cond (p a) 1 0 + count_by p (range_with_len (a + 1) n) = count-cons p a (range_with_len (a + 1) n) in
    let right : count_by q (range_with_len b (suc n)) ≡ cond (q b) 1 0 + count_by q (range_with_len (b + 1) n) = count-cons q b (range_with_len (b + 1) n) in
    let byte : cond {A = ℕ} (p a) 1 0 ≡ cond {A = ℕ} (q b) 1 0 = ap (λ t. cond {A = ℕ} t 1 0) here in
    omega (arith, left, right, byte, rest)

-- ---- texts of directories

whole : (cs : List (List ℕ)) → is_empty cs ≡ false → flat_map (λ c. c ++ 47 ∷ []) cs ≡ join_with_byte 47 cs ++ 47 ∷ []
whole [] some = cc
whole (c ∷ []) some = append-nil (c ++ 47 ∷ [])
whole (c ∷ d ∷ cs) some =
    ap (λ t. (c ++ 47 ∷ []) ++ t) (whole (d ∷ cs) refl)
    ∙ append_assoc c (47 ∷ []) (join_with_byte 47 (d ∷ cs) ++ 47 ∷ [])
    ∙ sym (append_assoc c (47 ∷ join_with_byte 47 (d ∷ cs)) (47 ∷ []))

some_part : (cs : List (List ℕ)) → is_empty cs ≡ false → 1 ≤ length cs
some_part [] some = cc
some_part (c ∷ cs) some = omega arith

module _ (front name : List ℕ) where
  text-front : (i : ℕ) → i ≤ length (components front) → directory_text i (front ++ 47 ∷ name) ≡ directory_text i front
  text-front i le = ap (λ cs. flat_map (λ c. c ++ 47 ∷ []) cs) (ap (take i) (components_slash front name) ∙ take-append-le i (components front) (components name) le)

  text-behind : (i : ℕ) → directory_text (length (components front) + i) (front ++ 47 ∷ name) ≡ front ++ 47 ∷ directory_text i name
  text-behind i =
      ap (λ cs. flat_map (λ c. c ++ 47 ∷ []) cs) (ap (take (length (components front) + i)) (components_slash front name) ∙ take-append-add (components front) (components name) i)
      ∙ flat_map-append (λ c. c ++ 47 ∷ []) (components front) (take i (components name))
      ∙ ap (λ t. t ++ directory_text i name) (whole (components front) (components_some front) ∙ ap (λ t. t ++ 47 ∷ []) (joined front))
      ∙ append_assoc front (47 ∷ []) (directory_text i name)

-- a directory in front adds the new ones among it and those above it
pub directories-law : (files : Files) (front name : List ℕ) → new_directories files (front ++ 47 ∷ name) ≡ new_in_front files front + new_behind files front name
unfolding new_directories
directories-law files front name =
    let n = length (components front) in
    let m = length (components name) - 1 in
    let test : ℕ → Bool = is_new_directory files (front ++ 47 ∷ name) in
    let some : 1 ≤ length (components name) = some_part (components name) (components_some name) in
    let parts : length (components (front ++ 47 ∷ name)) ≡ n + length (components name) = ap length (components_slash front name) ∙ length-append (components front) (components name) in
    let count : length (components (front ++ 47 ∷ name)) - 1 ≡ n + m = omega (arith, parts, some) in
    let first : count_by test (range_with_len 1 n) ≡ new_in_front files front = alike test (is_new_directory files front) 1 1 n
    (λ i lt. ap (λ t. not (has_file_below files t)) (text-front front name (1 + i) (omega (arith, lt)))) in
    let second : count_by test (range_with_len (1 + n) m) ≡ new_behind files front name = alike test (λ i. not (has_file_below files (front ++ 47 ∷ directory_text i name))) (1 + n) 1 m
    (λ i lt. let at : (1 + n) + i ≡ n + (1 + i) = omega arith in ap test at ∙ ap (λ t. not (has_file_below files t)) (text-behind front name (1 + i))) in
    ap (λ k. count_by test (range_with_len 1 k)) count ∙ parted test 1 n m ∙ ap (λ k. k + count_by test (range_with_len (1 + n) m)) first ∙ ap (λ k. new_in_front files front + k) second
