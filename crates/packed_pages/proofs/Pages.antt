-- What the bytes of packed pages say.
use Rattle.std.proofs.Common.{◌≡◌, ℕ, zero, suc, ◌+◌, ◌*◌, ◌<◌, ◌≤◌, ◌^◌, List, [], ◌∷◌, ◌++◌, length, get_or, take, drop, true, false, refl, sym, ap, ◌∙◌, arith, append_assoc, length-append}
use Rattle.std.specs.Prelude.{nat_lt}
use Rattle.std.specs.List.{flat_map}
use Rattle.std.specs.Int.{w32, w64, to_le_bytes, from_le_bytes}
use Rattle.std.proofs.lemmas.Bool.Decides.{nat_tests}
use Rattle.std.proofs.lemmas.Bool.{cases_lt}
use Rattle.std.proofs.Common.{inl, inr}
use Rattle.std.proofs.lemmas.Grind.{flat_map-append}
use Rattle.std.proofs.lemmas.List.{append-nil, take-append-drop, drop-drop, take-take, take_all}
use Rattle.std.proofs.lemmas.List.FromFn.{length-map-range_with_len}
use Rattle.std.proofs.lemmas.List.Folds.{length-flat_map-take}
use Rattle.std.proofs.lemmas.Nat.{from_le_bytes-to_le_bytes_4, from_le_bytes-to_le_bytes_8}
use Rattle.std.proofs.Math.Seq.{take-append_seam, drop-append-add, take-suc}
use Rattle.page_pair.specs.Records.{stated, line_in}
use Rattle.page_pair.proofs.Records.{padded-length}
use Rattle.page_pair.proofs.Windows.{uniform-length, uniform-at}
use Rattle.packed_pages.specs.declared.layout.Layout.{Layout}
use Rattle.packed_pages.specs.declared.marks.RecordMark.{RecordMark}
use Rattle.packed_pages.specs.Packs.{packed_record, records, joined, page_with, entries_from, bytes_of}
use Rattle.packed_pages.specs.Marks.{IsMark}
use Rattle.packed_pages.specs.Layout.{place_in, first_line, page_in, pages_in, lines_on}

pub place-more : (n : ℕ) (page : List ℕ) → place_in (n + 1) page ≡ place_in n page + 4 + stated page (place_in n page)
place-more n page = let e : n + 1 ≡ suc n = omega arith in rw e refl

-- the record behind a mark
pub mark_behind : (page : List ℕ) (m : RecordMark) (end : ℕ) → IsMark page m → end ≡ m.at + 4 + stated page m.at → end ≤ length page → IsMark page (record { before = m.before + 1; at = end })
mark_behind page m end is behind within = record {
  place = behind ∙ ap (λ p. p + 4 + stated page p) is.place ∙ sym (place-more m.before page);
  within = within;
}

pub record-length : (line : List ℕ) → length (packed_record line) ≡ 4 + length line
unfolding packed_record
record-length line = length-append (to_le_bytes w32 (length line)) line

pub pages-many : (l : Layout) (b : List ℕ) → length (pages_in l b) ≡ l.pages
unfolding pages_in
pages-many l b = length-map-range_with_len (lines_on l b) 0 l.pages

-- the record that has i before it
record-at : (p : List (List ℕ)) (z : List ℕ) (i : ℕ) → i < length p → drop (length (records (take i p))) (records p ++ z) ≡ packed_record (get_or p i []) ++ (records (drop (suc i) p) ++ z)
record-at [] z i lt = absurd (omega arith)
record-at (x ∷ p) z zero lt = append_assoc (packed_record x) (records p) z
record-at (x ∷ p) z (suc i) lt =
    ap (λ n. drop n ((packed_record x ++ records p) ++ z)) (length-append (packed_record x) (records (take i p)))
    ∙ ap (drop (length (packed_record x) + length (records (take i p)))) (append_assoc (packed_record x) (records p) z)
    ∙ drop-append-add (packed_record x) (records p ++ z) (length (records (take i p)))
    ∙ record-at p z i (omega arith)

pub record-within : (p : List (List ℕ)) (i : ℕ) → i < length p → length (records (take i p)) + (4 + length (get_or p i [])) ≤ length (records p)
record-within p i lt =
    let a : length (records (take i p)) + length (packed_record (get_or p i [])) ≤ length (records p) = length-flat_map-take packed_record p i [] lt in
    let b : length (packed_record (get_or p i [])) ≡ 4 + length (get_or p i []) = record-length (get_or p i []) in
    omega arith

front-number : (line rest : List ℕ) → take 4 (packed_record line ++ rest) ≡ to_le_bytes w32 (length line)
unfolding packed_record
front-number line rest = refl

front-line : (line rest : List ℕ) → take (length line) (drop 4 (packed_record line ++ rest)) ≡ line
unfolding packed_record
front-line line rest = take-append_seam line rest

pub stated-at : (p : List (List ℕ)) (z : List ℕ) (i : ℕ) → i < length p → length (records p) ≤ 1048576 → stated (records p ++ z) (length (records (take i p))) ≡ length (get_or p i [])
unfolding stated
stated-at p z i lt small =
    let w : length (records (take i p)) + (4 + length (get_or p i [])) ≤ length (records p) = record-within p i lt in
    ap (λ l. from_le_bytes w32 (take 4 l)) (record-at p z i lt)
    ∙ ap (from_le_bytes w32) (front-number (get_or p i []) (records (drop (suc i) p) ++ z))
    ∙ from_le_bytes-to_le_bytes_4 (length (get_or p i [])) (omega arith)

pub line-in-at : (p : List (List ℕ)) (z : List ℕ) (i : ℕ) → i < length p → length (records p) ≤ 1048576 → line_in (records p ++ z) (length (records (take i p))) ≡ get_or p i []
unfolding line_in
line-in-at p z i lt small =
    ap (λ n. take n (drop (length (records (take i p)) + 4) (records p ++ z))) (stated-at p z i lt small)
    ∙ ap (take (length (get_or p i []))) (sym (drop-drop 4 (length (records (take i p))) (records p ++ z)) ∙ ap (drop 4) (record-at p z i lt))
    ∙ front-line (get_or p i []) (records (drop (suc i) p) ++ z)

records-more : (p : List (List ℕ)) (i : ℕ) → i < length p → length (records (take (suc i) p)) ≡ length (records (take i p)) + (4 + length (get_or p i []))
records-more p i lt =
    ap (λ q. length (records q)) (take-suc p i [] lt)
    ∙ ap length (flat_map-append packed_record (take i p) (get_or p i [] ∷ []))
    ∙ length-append (records (take i p)) (packed_record (get_or p i []) ++ [])
    ∙ ap (λ l. length (records (take i p)) + length l) (append-nil (packed_record (get_or p i [])))
    ∙ ap (λ n. length (records (take i p)) + n) (record-length (get_or p i []))

pub place-at : (p : List (List ℕ)) (z : List ℕ) (i : ℕ) → i ≤ length p → length (records p) ≤ 1048576 → place_in i (records p ++ z) ≡ length (records (take i p))
place-at p z zero le small = refl
place-at p z (suc i) le small =
    let here : place_in i (records p ++ z) ≡ length (records (take i p)) = place-at p z i (omega arith) small in
    let n : stated (records p ++ z) (place_in i (records p ++ z)) ≡ length (get_or p i []) = ap (stated (records p ++ z)) here ∙ stated-at p z i (omega arith) small in
    let more : length (records (take (suc i) p)) ≡ length (records (take i p)) + (4 + length (get_or p i [])) = records-more p i (omega arith) in
    omega arith

-- entries
pub entries-length : (k : ℕ) (ps : List (List (List ℕ))) → length (entries_from k ps) ≡ 8 * length ps
entries-length k [] = refl
entries-length k (p ∷ ps) =
    let more : length (entries_from (k + length p) ps) ≡ 8 * length ps = entries-length (k + length p) ps in
    length-append (to_le_bytes w64 k) (entries_from (k + length p) ps) ∙ ap (λ n. 8 + n) more ∙ omega arith

entry-at : (k : ℕ) (ps : List (List (List ℕ))) (z : List ℕ) (j : ℕ) → j < length ps → take 8 (drop (j * 8) (entries_from k ps ++ z)) ≡ to_le_bytes w64 (k + length (joined (take j ps)))
entry-at k [] z j lt = absurd (omega arith)
entry-at k (p ∷ ps) z zero lt =
    let e : k ≡ k + 0 = omega arith in
    ap (take 8) (append_assoc (to_le_bytes w64 k) (entries_from (k + length p) ps) z)
    ∙ take-append_seam (to_le_bytes w64 k) (entries_from (k + length p) ps ++ z)
    ∙ ap (to_le_bytes w64) e
entry-at k (p ∷ ps) z (suc j) lt =
    let place : suc j * 8 ≡ 8 + j * 8 = omega arith in
    let n : k + length p + length (joined (take j ps)) ≡ k + length (p ++ joined (take j ps)) = (let a : length (p ++ joined (take j ps)) ≡ length p + length (joined (take j ps)) = length-append p (joined (take j ps)) in omega arith) in
    ap (λ n. take 8 (drop n (entries_from k (p ∷ ps) ++ z))) place
    ∙ ap (λ l. take 8 (drop (8 + j * 8) l)) (append_assoc (to_le_bytes w64 k) (entries_from (k + length p) ps) z)
    ∙ ap (take 8) (drop-append-add (to_le_bytes w64 k) (entries_from (k + length p) ps ++ z) (j * 8))
    ∙ entry-at (k + length p) ps z j (omega arith)
    ∙ ap (to_le_bytes w64) n

pub joined-take : (ps : List (List (List ℕ))) (j : ℕ) → length (joined (take j ps)) ≤ length (joined ps)
joined-take ps j =
    let a : length (joined (take j ps ++ drop j ps)) ≡ length (joined ps) = ap (λ l. length (joined l)) (take-append-drop j ps) in
    let b : length (joined (take j ps ++ drop j ps)) ≡ length (joined (take j ps) ++ joined (drop j ps)) = ap length (flat_map-append (λ p. p) (take j ps) (drop j ps)) in
    let c : length (joined (take j ps) ++ joined (drop j ps)) ≡ length (joined (take j ps)) + length (joined (drop j ps)) = length-append (joined (take j ps)) (joined (drop j ps)) in
    omega arith

pub joined-up : (ps : List (List (List ℕ))) (i j : ℕ) → i ≤ j → length (joined (take i ps)) ≤ length (joined (take j ps))
joined-up ps i j le =
    let a : length (joined (take i (take j ps))) ≤ length (joined (take j ps)) = joined-take (take j ps) i in
    let b : length (joined (take i (take j ps))) ≡ length (joined (take i ps)) = ap (λ l. length (joined l)) (take-take i j ps le) in
    omega arith

pub joined-more : (ps : List (List (List ℕ))) (j : ℕ) → j < length ps → length (joined (take (j + 1) ps)) ≡ length (joined (take j ps)) + length (get_or ps j [])
joined-more ps j lt =
    let s : j + 1 ≡ suc j = omega arith in
    ap (λ n. length (joined (take n ps))) s
    ∙ ap (λ q. length (joined q)) (take-suc ps j [] lt)
    ∙ ap length (flat_map-append (λ p. p) (take j ps) (get_or ps j [] ∷ []))
    ∙ length-append (joined (take j ps)) (get_or ps j [] ++ [])
    ∙ ap (λ l. length (joined (take j ps)) + length l) (append-nil (get_or ps j []))

-- what an entry states
pub first-at : (l : Layout) (ps : List (List (List ℕ))) (j : ℕ) → length ps ≡ l.pages → length (joined ps) ≡ l.count → l.count ≤ 2 ^ 40 → j ≤ length ps → first_line l (bytes_of l.size ps) j ≡ 1 + length (joined (take j ps))
unfolding first_line bytes_of
first-at l ps j many counted few le = elim (cases_lt j l.pages) [
  | inl lt ↦
      let t : nat_lt j l.pages ≡ true = grind (arith, nat_tests) in
      let most : length (joined (take j ps)) ≤ length (joined ps) = joined-take ps j in
      rw t
      (ap (from_le_bytes w64) (entry-at 1 ps (flat_map (page_with l.size) ps) j (omega arith))
      ∙ from_le_bytes-to_le_bytes_8 (1 + length (joined (take j ps))) (omega arith))
  | inr ge ↦
      let t : nat_lt j l.pages ≡ false = grind (arith, nat_tests) in
      let all : length (joined (take j ps)) ≡ length (joined ps) = ap (λ q. length (joined q)) (take_all j ps (omega arith)) in
      rw t (omega arith)
]

pub page-length : (size : ℕ) (p : List (List ℕ)) → length (records p) ≤ size → length (page_with size p) ≡ size
unfolding page_with
page-length size p le = padded-length size (records p) le

-- what stands at the place of a page
pub page-at : (l : Layout) (ps : List (List (List ℕ))) (j : ℕ) → length ps ≡ l.pages → ((i : ℕ) → i < length ps → length (records (get_or ps i [])) ≤ l.size) → j < length ps → page_in l (bytes_of l.size ps) j ≡ page_with l.size (get_or ps j [])
unfolding page_in bytes_of
page-at l ps j many fits lt =
    let n : 8 * l.pages ≡ length (entries_from 1 ps) = ap (λ k. 8 * k) (sym many) ∙ sym (entries-length 1 ps) in
    ap (λ k. take l.size (drop (k + j * l.size) (entries_from 1 ps ++ flat_map (page_with l.size) ps))) n
    ∙ ap (take l.size) (drop-append-add (entries_from 1 ps) (flat_map (page_with l.size) ps) (j * l.size))
    ∙ ap (λ b. take l.size (drop (j * l.size) b)) (sym (append-nil (flat_map (page_with l.size) ps)))
    ∙ uniform-at (page_with l.size) l.size [] [] ps j (λ i lt. page-length l.size (get_or ps i []) (fits i lt)) lt

pub bytes-length : (l : Layout) (ps : List (List (List ℕ))) → length ps ≡ l.pages → ((i : ℕ) → i < length ps → length (records (get_or ps i [])) ≤ l.size) → length (bytes_of l.size ps) ≡ 8 * l.pages + l.pages * l.size
unfolding bytes_of
bytes-length l ps many fits =
    length-append (entries_from 1 ps) (flat_map (page_with l.size) ps)
    ∙ ap (λ n. n + length (flat_map (page_with l.size) ps)) (entries-length 1 ps)
    ∙ ap (λ n. 8 * length ps + n) (uniform-length (page_with l.size) l.size [] ps (λ i lt. page-length l.size (get_or ps i []) (fits i lt)))
    ∙ ap (λ n. 8 * n + n * l.size) many
