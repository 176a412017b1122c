-- What pages of records hold.
use Rattle.std.proofs.Common.{◌≡◌, ℕ, zero, suc, ◌+◌, ◌-◌, ◌*◌, ◌/◌, ◌%◌, ◌<◌, ◌≤◌, List, [], ◌∷◌, ◌++◌, length, get_or, take, drop, replicate, min, refl, sym, ap, ◌∙◌, arith, append_assoc, length-append, length-drop}
use Rattle.std.proofs.lemmas.List.{append-nil, length-take, take-take}
use Rattle.std.proofs.Math.Seq.{take-append_seam, drop-append-add}
use Rattle.std.proofs.Math.Nat.{suc-mul, zero-mul}
use Rattle.std.proofs.lemmas.Nat.{from_le_bytes-to_le_bytes_4, div_below, mod_below, div-add-mod', mul-le}
use Rattle.std.proofs.lemmas.Grind.{div_ceil_times}
use Rattle.std.proofs.lemmas.List.FromFn.{length-range_with_len, get_or-range_with_len, fill_by_all}
use Rattle.std.specs.List.{flat_map, range_with_len}
use Rattle.std.specs.Int.{w32, to_le_bytes, from_le_bytes, div_ceil}
use Rattle.plan_b.specs.declared.layout.Layout.{Layout}
use Rattle.page_pair.specs.Records.{longest, record_of}
use Rattle.plan_b.specs.Pages.{page_with, lines_on, front_pages}
use Rattle.plan_b.specs.Layout.{IsLayout, HasRecords, place_of, decoded}
use Rattle.page_pair.specs.Records.{stated, line_in}
use Rattle.page_pair.proofs.LongLines.{longest-at}
use Rattle.page_pair.proofs.Records.{record-length, padded-length}
use Rattle.plan_b.proofs.Layouts.{rows-fit, some-fit}
use Rattle.page_pair.proofs.Windows.{window, part-at, uniform-length, uniform-at}

-- the lines of a page are lines
on-at : (q : ℕ) (ls : List (List ℕ)) (j i : ℕ) → i < length (lines_on q ls j) → get_or (lines_on q ls j) i [] ≡ get_or ls (j * q + i) []
unfolding lines_on
on-at q ls j i lt = let n : length (take q (drop (j * q) ls)) ≡ min q (length (drop (j * q) ls)) = length-take q (drop (j * q) ls) in part-at q (j * q) i [] ls (omega arith)

on-length : (q : ℕ) (ls : List (List ℕ)) (j : ℕ) → length (lines_on q ls j) ≡ min q (length ls - j * q)
unfolding lines_on
on-length q ls j = length-take q (drop (j * q) ls) ∙ ap (min q) (length-drop (j * q) ls)

record-each : (w q : ℕ) (ls : List (List ℕ)) (j : ℕ) → 4 + longest ls ≤ w → (i : ℕ) → i < length (lines_on q ls j) → length (record_of w (get_or (lines_on q ls j) i [])) ≡ w
record-each w q ls j narrow i lt =
    let n : length (lines_on q ls j) ≡ min q (length ls - j * q) = on-length q ls j in
    let is : length (get_or (lines_on q ls j) i []) ≡ length (get_or ls (j * q + i) []) = ap length (on-at q ls j i lt) in
    let most : length (get_or ls (j * q + i) []) ≤ longest ls = longest-at ls (j * q + i) (omega arith) in
    record-length w (get_or (lines_on q ls j) i []) (omega arith)

pub page-length : (l : Layout) (ls : List (List ℕ)) (j : ℕ) → IsLayout l → 4 + longest ls ≤ l.width → length (page_with l.size l.width (lines_on l.per_page ls j)) ≡ l.size
unfolding page_with
page-length l ls j is narrow =
    let n : length (lines_on l.per_page ls j) ≡ min l.per_page (length ls - j * l.per_page) = on-length l.per_page ls j in
    let fit : length (lines_on l.per_page ls j) * l.width ≤ l.size = rows-fit l (length (lines_on l.per_page ls j)) is (omega arith) in
    let len : length (flat_map (record_of l.width) (lines_on l.per_page ls j)) ≡ length (lines_on l.per_page ls j) * l.width = uniform-length (record_of l.width) l.width [] (lines_on l.per_page ls j) (record-each l.width l.per_page ls j narrow) in
    padded-length l.size (flat_map (record_of l.width) (lines_on l.per_page ls j)) (omega arith)

page-each : (l : Layout) (ls : List (List ℕ)) (n : ℕ) → IsLayout l → 4 + longest ls ≤ l.width → (j : ℕ) → j < length (range_with_len 0 n) → length (page_with l.size l.width (lines_on l.per_page ls (get_or (range_with_len 0 n) j 0))) ≡ l.size
page-each l ls n is narrow j lt = page-length l ls (get_or (range_with_len 0 n) j 0) is narrow

pub pages-length : (l : Layout) (ls : List (List ℕ)) (n : ℕ) → IsLayout l → 4 + longest ls ≤ l.width → length (front_pages l.size l.width l.per_page ls n) ≡ n * l.size
unfolding front_pages
pages-length l ls n is narrow =
    uniform-length (λ j. page_with l.size l.width (lines_on l.per_page ls j)) l.size 0 (range_with_len 0 n) (page-each l ls n is narrow)
    ∙ ap (λ m. m * l.size) (length-range_with_len 0 n)

page-at : (l : Layout) (ls : List (List ℕ)) (n j : ℕ) → IsLayout l → 4 + longest ls ≤ l.width → j < n → take l.size (drop (j * l.size) (front_pages l.size l.width l.per_page ls n)) ≡ page_with l.size l.width (lines_on l.per_page ls j)
unfolding front_pages
page-at l ls n j is narrow lt =
    let f = λ (j : ℕ). page_with l.size l.width (lines_on l.per_page ls j) in
    let many : length (range_with_len 0 n) ≡ n = length-range_with_len 0 n in
    let place : get_or (range_with_len 0 n) j 0 ≡ 0 + j = get_or-range_with_len 0 n j 0 lt in
    let zero_ : 0 + j ≡ j = omega arith in
    ap (λ b. take l.size (drop (j * l.size) b)) (sym (append-nil (flat_map (λ j. page_with l.size l.width (lines_on l.per_page ls j)) (range_with_len 0 n))))
    ∙ uniform-at (λ j. page_with l.size l.width (lines_on l.per_page ls j)) l.size 0 [] (range_with_len 0 n) j (page-each l ls n is narrow) (omega arith)
    ∙ ap (λ k. page_with l.size l.width (lines_on l.per_page ls k)) (place ∙ zero_)

record-at : (l : Layout) (ls : List (List ℕ)) (j i : ℕ) → 4 + longest ls ≤ l.width → i < length (lines_on l.per_page ls j) → take l.width (drop (i * l.width) (page_with l.size l.width (lines_on l.per_page ls j))) ≡ record_of l.width (get_or ls (j * l.per_page + i) [])
unfolding page_with
record-at l ls j i narrow lt =
    uniform-at (record_of l.width) l.width [] (replicate (l.size - length (flat_map (record_of l.width) (lines_on l.per_page ls j))) 0) (lines_on l.per_page ls j) i (record-each l.width l.per_page ls j narrow) lt
    ∙ ap (record_of l.width) (on-at l.per_page ls j i lt)

-- the record of a line in the scratch
pub placed : (l : Layout) (ls : List (List ℕ)) (k : ℕ) → IsLayout l → 4 + longest ls ≤ l.width → k < length ls → take l.width (drop (place_of l k) (front_pages l.size l.width l.per_page ls (div_ceil (length ls) l.per_page))) ≡ record_of l.width (get_or ls k [])
placed l ls k is narrow lt =
    let q : 0 < l.per_page = some-fit l is in
    let all = div_ceil_times (length ls) l.per_page q in
    let many : length ls ≤ div_ceil (length ls) l.per_page * l.per_page = all.0 in
    let page : k / l.per_page < div_ceil (length ls) l.per_page = div_below k l.per_page (div_ceil (length ls) l.per_page) q (omega arith) in
    let whole : k / l.per_page * l.per_page + k % l.per_page ≡ k = div-add-mod' k l.per_page in
    let low : k % l.per_page < l.per_page = mod_below k l.per_page q in
    let on : length (lines_on l.per_page ls (k / l.per_page)) ≡ min l.per_page (length ls - k / l.per_page * l.per_page) = on-length l.per_page ls (k / l.per_page) in
    let fit : (k % l.per_page + 1) * l.width ≤ l.size = rows-fit l (k % l.per_page + 1) is (omega arith) in
    let row : (k % l.per_page + 1) * l.width ≡ k % l.per_page * l.width + l.width = grind arith in
    sym (window l.width (k % l.per_page * l.width) l.size (k / l.per_page * l.size) (front_pages l.size l.width l.per_page ls (div_ceil (length ls) l.per_page)) (omega arith))
    ∙ ap (λ p. take l.width (drop (k % l.per_page * l.width) p)) (page-at l ls (div_ceil (length ls) l.per_page) (k / l.per_page) is narrow page)
    ∙ record-at l ls (k / l.per_page) (k % l.per_page) narrow (omega arith)
    ∙ ap (λ n. record_of l.width (get_or ls n [])) whole

-- what a record says
record-number : (w : ℕ) (line : List ℕ) → take 4 (record_of w line) ≡ to_le_bytes w32 (length line)
unfolding record_of
record-number w line = refl

record-line : (w : ℕ) (line : List ℕ) → take (length line) (drop 4 (record_of w line)) ≡ line
unfolding record_of
record-line w line = take-append_seam line (replicate (w - length (to_le_bytes w32 (length line) ++ line)) 0)

stated-in : (b line : List ℕ) (at w : ℕ) → take w (drop at b) ≡ record_of w line → 4 + length line ≤ w → w ≤ 1048576 → stated b at ≡ length line
unfolding stated
stated-in b line at w e fits small =
    ap (from_le_bytes w32) (sym (take-take 4 w (drop at b) (omega arith)) ∙ ap (take 4) e ∙ record-number w line)
    ∙ from_le_bytes-to_le_bytes_4 (length line) (omega arith)

held-in : (b line : List ℕ) (at w : ℕ) → take w (drop at b) ≡ record_of w line → 4 + length line ≤ w → w ≤ 1048576 → line_in b at ≡ line
unfolding line_in
held-in b line at w e fits small =
    ap (λ n. take n (drop (at + 4) b)) (stated-in b line at w e fits small)
    ∙ sym (window (length line) 4 w at b fits)
    ∙ ap (λ r. take (length line) (drop 4 r)) e
    ∙ record-line w line

-- pages hold their lines
pub pages-records : (l : Layout) (ls : List (List ℕ)) (b : List ℕ) → IsLayout l → 4 + longest ls ≤ l.width → l.count ≡ length ls → b ≡ front_pages l.size l.width l.per_page ls (div_ceil (length ls) l.per_page) → HasRecords l b
pages-records l ls b is narrow count e = record {
  whole = λ k lt.
      let q : 0 < l.per_page = some-fit l is in
      let all = div_ceil_times (length ls) l.per_page q in
      let many : length ls ≤ div_ceil (length ls) l.per_page * l.per_page = all.0 in
      let page : k / l.per_page < div_ceil (length ls) l.per_page = div_below k l.per_page (div_ceil (length ls) l.per_page) q (omega arith) in
      let len : length b ≡ div_ceil (length ls) l.per_page * l.size = ap length e ∙ pages-length l ls (div_ceil (length ls) l.per_page) is narrow in
      let fits : (k / l.per_page + 1) * l.size ≤ div_ceil (length ls) l.per_page * l.size = mul-le (k / l.per_page + 1) l.size (div_ceil (length ls) l.per_page) l.size (omega arith) (omega arith) in
      let row : (k / l.per_page + 1) * l.size ≡ k / l.per_page * l.size + l.size = grind arith in
      omega arith;
  fits = λ k lt.
      let most : length (get_or ls k []) ≤ longest ls = longest-at ls k (omega arith) in
      let high : l.width ≤ l.size = is.high in
      let size : l.size ≤ 1048576 = is.sized.1 in
      let at : stated b (place_of l k) ≡ length (get_or ls k []) = stated-in b (get_or ls k []) (place_of l k) l.width (ap (λ x. take l.width (drop (place_of l k) x)) e ∙ placed l ls k is narrow (omega arith)) (omega arith) (omega arith) in
      omega arith;
}

pub pages-decoded : (l : Layout) (ls : List (List ℕ)) (b : List ℕ) → IsLayout l → 4 + longest ls ≤ l.width → l.count ≡ length ls → b ≡ front_pages l.size l.width l.per_page ls (div_ceil (length ls) l.per_page) → decoded l b ≡ ls
unfolding decoded
pages-decoded l ls b is narrow count e =
    sym (fill_by_all (λ k. line_in b (place_of l k)) ls l.count [] (sym count) (λ k lt.
    let most : length (get_or ls k []) ≤ longest ls = longest-at ls k (omega arith) in
    let high : l.width ≤ l.size = is.high in
    let size : l.size ≤ 1048576 = is.sized.1 in
    sym (held-in b (get_or ls k []) (place_of l k) l.width (ap (λ x. take l.width (drop (place_of l k) x)) e ∙ placed l ls k is narrow (omega arith)) (omega arith) (omega arith))))
