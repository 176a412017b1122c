-- The longest of some lines, and the first that is too long.
use Rattle.std.proofs.Common.{◌≡◌, ℕ, zero, suc, ◌+◌, ◌-◌, ◌<◌, ◌≤◌, Bool, true, false, List, [], ◌∷◌, ◌++◌, length, get_or, max, refl, sym, ap, ◌∙◌, arith, None, Some, append-nil, length-append}
use Rattle.std.specs.Prelude.{find}
use Rattle.std.specs.List.{range_with_len}
use Rattle.std.specs.Option.{option_map}
use Rattle.std.proofs.lemmas.Bool.Decides.{nat_tests}
use Rattle.std.proofs.Math.ListN.{get_or-append}
use Rattle.std.proofs.Math.Seq.{get_or-append_seam}
use Rattle.line_store.specs.declared.fault.OpenFault.TheVariants.{LongLine}
use Rattle.line_store.specs.Store.{line_at}
use Rattle.line_store.specs.Taking.{first_long, long_line, is_long}
use Rattle.page_pair.specs.Records.{longest}

pub longest-more : (ls : List (List ℕ)) (line : List ℕ) → longest (ls ++ line ∷ []) ≡ max (longest ls) (length line)
longest-more [] line = omega arith
longest-more (l ∷ ls) line = let e : longest (ls ++ line ∷ []) ≡ max (longest ls) (length line) = longest-more ls line in omega arith

pub longest-at : (ls : List (List ℕ)) (i : ℕ) → i < length ls → length (get_or ls i []) ≤ longest ls
longest-at [] i lt = absurd (omega arith)
longest-at (l ∷ ls) zero lt = omega arith
longest-at (l ∷ ls) (suc i) lt = let e : length (get_or ls i []) ≤ longest ls = longest-at ls i (omega arith) in omega arith

find-skip : (p : ℕ → Bool) (a n m : ℕ) → ((k : ℕ) → a ≤ k → k < a + n → p k ≡ false) → find p (range_with_len a (n + m)) ≡ find p (range_with_len (a + n) m)
find-skip p a zero m no_ = let e : zero + m ≡ m = omega arith in let f : a + zero ≡ a = omega arith in rw (e, f) refl
find-skip p a (suc n) m no_ =
    let e : suc n + m ≡ suc (n + m) = omega arith in
    let f : a + suc n ≡ a + 1 + n = omega arith in
    let here : p a ≡ false = no_ a (omega arith) (omega arith) in
    rw (e, f, here) (find-skip p (a + 1) n m (λ k low high. no_ k (omega arith) (omega arith)))

short-at : (size : ℕ) (ls more : List (List ℕ)) (k : ℕ) → longest ls ≤ size - 4 → 1 ≤ k → k ≤ length ls → is_long size (ls ++ more) k ≡ false
short-at size ls more k short low high =
    let a : length (line_at (ls ++ more) k) ≡ length (get_or ls (k - 1) []) = ap length (get_or-append ls more [] (k - 1) (omega arith)) in
    let b : length (get_or ls (k - 1) []) ≤ longest ls = longest-at ls (k - 1) (omega arith) in
    let c : length (line_at (ls ++ more) k) ≤ size - 4 = omega arith in
    grind (arith, nat_tests)

pub none-long : (size : ℕ) (ls : List (List ℕ)) → longest ls ≤ size - 4 → first_long size ls ≡ None
unfolding first_long
none-long size ls short =
    let e : length ls ≡ length ls + 0 = omega arith in
    ap (λ n. find (is_long size ls) (range_with_len 1 n)) e
    ∙ find-skip (is_long size ls) 1 (length ls) 0 (λ k low high. ap (λ l. is_long size l k) (sym (append-nil ls)) ∙ short-at size ls [] k short low (omega arith))

seam-is : (ls : List (List ℕ)) (line : List ℕ) (more : List (List ℕ)) → line_at (ls ++ line ∷ more) (1 + length ls) ≡ line
seam-is ls line more =
    let e : 1 + length ls - 1 ≡ length ls = omega arith in
    ap (λ n. get_or (ls ++ line ∷ more) n []) e ∙ get_or-append_seam ls line more []

find-here : (p : ℕ → Bool) (a n : ℕ) → p a ≡ true → find p (range_with_len a (suc n)) ≡ Some a
find-here p a n e = rw e refl

first-is : (size : ℕ) (ls : List (List ℕ)) (line : List ℕ) (more : List (List ℕ)) → longest ls ≤ size - 4 → size - 4 < length line → first_long size (ls ++ line ∷ more) ≡ Some (1 + length ls)
unfolding first_long
first-is size ls line more short long =
    let n : length (ls ++ line ∷ more) ≡ length ls + suc (length more) = length-append ls (line ∷ more) in
    let len : length (line_at (ls ++ line ∷ more) (1 + length ls)) ≡ length line = ap length (seam-is ls line more) in
    let here : is_long size (ls ++ line ∷ more) (1 + length ls) ≡ true = grind (arith, nat_tests) in
    ap (λ n. find (is_long size (ls ++ line ∷ more)) (range_with_len 1 n)) n
    ∙ find-skip (is_long size (ls ++ line ∷ more)) 1 (length ls) (suc (length more)) (λ k low high. short-at size ls (line ∷ more) k short low (omega arith))
    ∙ find-here (is_long size (ls ++ line ∷ more)) (1 + length ls) (length more) here

pub first-long : (size : ℕ) (ls : List (List ℕ)) (line : List ℕ) (more : List (List ℕ)) → longest ls ≤ size - 4 → size - 4 < length line → long_line size (ls ++ line ∷ more) ≡ Some (LongLine (length ls + 1) (length line))
first-long size ls line more short long =
    let c : 1 + length ls ≡ length ls + 1 = omega arith in
    ap (option_map (λ k. LongLine k (length (line_at (ls ++ line ∷ more) k)))) (first-is size ls line more short long)
    ∙ ap (λ l. Some (LongLine (1 + length ls) (length l))) (seam-is ls line more)
    ∙ ap (λ n. Some (LongLine n (length line))) c

pub longest-behind : (ls more : List (List ℕ)) → longest more ≤ longest (ls ++ more)
longest-behind [] more = omega arith
longest-behind (l ∷ ls) more = let e : longest more ≤ longest (ls ++ more) = longest-behind ls more in omega arith
