-- Pages that take as many lines as fit.
use Rattle.std.proofs.Common.{◌≡◌, ℕ, ◌+◌, ◌<◌, ◌≤◌, List, [], ◌∷◌, ◌++◌, length, true, false, max, refl, ap, ◌∙◌, arith, append_assoc, length-append, inl, inr}
use Rattle.std.specs.Prelude.{nat_le}
use Rattle.std.proofs.lemmas.Bool.{cases_lt}
use Rattle.std.proofs.lemmas.Bool.Decides.{nat_tests}
use Rattle.std.proofs.lemmas.List.{append-nil}
use Rattle.page_pair.specs.Records.{longest}
use Rattle.packed_pages.specs.Packs.{packed_record, records, joined, begun, pages_of, pages_from}
use Rattle.packed_pages.specs.Packing.{IsFull, ArePacked}
use Rattle.packed_pages.proofs.Pages.{record-length}
use Rattle.packed_pages.proofs.Fillings.{records-more}

joined-begun : (page : List (List ℕ)) → joined (begun page) ≡ page ++ []
joined-begun [] = refl
joined-begun (line ∷ page) = refl

joined-from : (size : ℕ) (page ls : List (List ℕ)) → joined (pages_from size page ls) ≡ page ++ ls
joined-from size page [] = joined-begun page
joined-from size page (line ∷ ls) = elim (cases_lt size (length (records page) + (4 + length line))) [
  | inl lt ↦
      let t : nat_le (length (records page) + (4 + length line)) size ≡ false = grind (arith, nat_tests) in
      rw t (ap (λ x. page ++ x) (joined-from size (line ∷ []) ls))
  | inr ge ↦
      let t : nat_le (length (records page) + (4 + length line)) size ≡ true = grind (arith, nat_tests) in
      rw t (joined-from size (page ++ line ∷ []) ls ∙ append_assoc page (line ∷ []) ls)
]

pub joined-pages : (size : ℕ) (ls : List (List ℕ)) → joined (pages_of size ls) ≡ ls
unfolding pages_of
joined-pages size ls = joined-from size [] ls

next-long : (size : ℕ) (page : List (List ℕ)) (line : List ℕ) (rest ls : List (List ℕ)) → size < length (records page) + (4 + length line) → IsFull size page (pages_from size (line ∷ rest) ls)
next-long size page line rest [] lt = lt
next-long size page line rest (l ∷ ls) lt = elim (cases_lt size (length (records (line ∷ rest)) + (4 + length l))) [
  | inl over ↦
      let t : nat_le (length (records (line ∷ rest)) + (4 + length l)) size ≡ false = grind (arith, nat_tests) in
      rw t lt
  | inr fits ↦
      let t : nat_le (length (records (line ∷ rest)) + (4 + length l)) size ≡ true = grind (arith, nat_tests) in
      rw t (next-long size page line (rest ++ l ∷ []) ls lt)
]

packed-begun : (size : ℕ) (page : List (List ℕ)) → length (records page) ≤ size → ArePacked size (begun page)
packed-begun size [] le = tt
packed-begun size (line ∷ page) le = (omega arith, (le, (tt, tt)))

packed-from : (size : ℕ) (page ls : List (List ℕ)) → 1 ≤ length page → length (records page) ≤ size → 4 + longest ls ≤ size → ArePacked size (pages_from size page ls)
packed-from size page [] some le short = packed-begun size page le
packed-from size page (line ∷ ls) some le short =
    let m : longest (line ∷ ls) ≡ max (length line) (longest ls) = refl in
    let wide : length (packed_record line) ≡ 4 + length line = record-length line in
    elim (cases_lt size (length (records page) + (4 + length line))) [
      | inl lt ↦
          let t : nat_le (length (records page) + (4 + length line)) size ≡ false = grind (arith, nat_tests) in
          let one : length (records (line ∷ [])) ≡ 4 + length line = ap length (append-nil (packed_record line)) ∙ wide in
          rw t (some, (le, (next-long size page line [] ls lt, packed-from size (line ∷ []) ls (omega arith) (omega arith) (omega arith))))
      | inr ge ↦
          let t : nat_le (length (records page) + (4 + length line)) size ≡ true = grind (arith, nat_tests) in
          let n : length (page ++ line ∷ []) ≡ length page + 1 = length-append page (line ∷ []) in
          let r : length (records (page ++ line ∷ [])) ≡ length (records page) + length (packed_record line) = ap length (records-more page line) ∙ length-append (records page) (packed_record line) in
          rw t (packed-from size (page ++ line ∷ []) ls (omega arith) (omega arith) (omega arith))
    ]

pub packed-pages : (size : ℕ) (ls : List (List ℕ)) → 4 + longest ls ≤ size → ArePacked size (pages_of size ls)
unfolding pages_of
packed-pages size [] short = tt
packed-pages size (line ∷ ls) short =
    let m : longest (line ∷ ls) ≡ max (length line) (longest ls) = refl in
    let wide : length (packed_record line) ≡ 4 + length line = record-length line in
    let t : nat_le (length (records []) + (4 + length line)) size ≡ true = grind (arith, nat_tests) in
    let one : length (records (line ∷ [])) ≡ 4 + length line = ap length (append-nil (packed_record line)) ∙ wide in
    rw t (packed-from size (line ∷ []) ls (omega arith) (omega arith) (omega arith))
