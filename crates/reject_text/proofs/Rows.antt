-- The rows of a file patch one after another, what was written before one, and the net there.
use Rattle.std.proofs.Common.{◌≡◌, ℕ, zero, suc, ◌+◌, ◌-◌, ◌<◌, ◌≤◌, List, [], ◌∷◌, ◌++◌, length, take, drop, map, get_or, refl, sym, ap, ◌∙◌, arith}
use Rattle.std.specs.Prelude.{pos, ◌+ℤ◌, ◌-ℤ◌, sum_by}
use Rattle.std.specs.List.{flat_map, range_with_len}
use Rattle.std.proofs.Math.ListN.{get_or-map}
use Rattle.std.proofs.lemmas.Int.{ints}
use Rattle.std.proofs.lemmas.List.{drop_more, length-map, flat_map_more}
use Rattle.std.proofs.lemmas.List.Concat.{flat_map-append}
use Rattle.std.proofs.lemmas.List.Sums.{sum_by_more}
use Rattle.std.proofs.lemmas.Slice.Zip.{length-zip, get_or-zip}
use Rattle.hunk_core.specs.declared.Form.{Form}
use Rattle.hunk_core.specs.declared.Side.{Side}
use Rattle.hunk_core.specs.declared.Verdict.{Verdict}
use Rattle.hunk_core.specs.declared.Hunk.{Hunk}
use Rattle.hunk_core.specs.PlainHunk.{PlainHunk, hunk_of, hunks_of}
use Rattle.hunk_core.specs.Turned.{turned}
use Rattle.patch_header.specs.Written.{hunk_text}
use Rattle.reject_text.specs.Starts.{Row, placed_adds, placed_drops, net}
use Rattle.reject_text.specs.Rejects.{rows_of, reject_of, first_reject, reject_at, rejects}

-- ---- numbers in a row

pub range-split : (a n k : ℕ) → k ≤ n → range_with_len a n ≡ range_with_len a k ++ range_with_len (a + k) (n - k)
range-split a n zero le =
    let first : a ≡ a + 0 = omega arith in
    let count : n ≡ n - 0 = omega arith in
    ap (λ m. range_with_len m n) first ∙ ap (range_with_len (a + 0)) count
range-split a zero (suc k) le = absurd (omega arith)
range-split a (suc n) (suc k) le =
    let first : a + 1 + k ≡ a + suc k = omega arith in
    let count : n - k ≡ suc n - suc k = omega arith in
    ap (λ (l : List ℕ). a ∷ l) (range-split (a + 1) n k (omega arith))
    ∙ ap (λ m. a ∷ (range_with_len (a + 1) k ++ range_with_len m (n - k))) first
    ∙ ap (λ m. a ∷ (range_with_len (a + 1) k ++ range_with_len (a + suc k) m)) count

range-more : (i : ℕ) → range_with_len 0 (i + 1) ≡ range_with_len 0 i ++ i ∷ []
range-more i =
    let first : 0 + i ≡ i = omega arith in
    let one : i + 1 - i ≡ 1 = omega arith in
    range-split 0 (i + 1) i (omega arith)
    ∙ ap (λ m. range_with_len 0 i ++ range_with_len m (i + 1 - i)) first
    ∙ ap (λ m. range_with_len 0 i ++ range_with_len i m) one

-- ---- the rejects among the first rows

abbrev pub rejects_to : List Row → ℕ → List PlainHunk
rejects_to rows n = flat_map (reject_at rows) (range_with_len 0 n)

abbrev pub text_to : Form → List Row → ℕ → List ℕ
text_to form rows n = flat_map (hunk_text form) (rejects_to rows n)

pub rejects-are : (rows : List Row) → rejects rows ≡ rejects_to rows (length rows)
unfolding rejects
rejects-are rows = refl

abbrev pub text_at : Form → List Row → ℕ → Row → List ℕ
text_at form rows i row = flat_map (hunk_text form) (reject_of (net (take i rows)) row)

pub text-more : (form : Form) (rows : List Row) (i : ℕ) (row : Row) → drop i rows ≡ row ∷ drop (i + 1) rows → text_to form rows i ++ text_at form rows i row ≡ text_to form rows (i + 1)
text-more form rows i row here =
    let at : reject_at rows i ≡ reject_of (net (take i rows)) row = ap (first_reject (net (take i rows))) here in
    let more : rejects_to rows i ++ reject_at rows i ≡ rejects_to rows (i + 1) = flat_map_more (reject_at rows) [] (range_with_len 0 i) i ∙ ap (flat_map (reject_at rows)) (sym (range-more i)) in
    ap (λ hs. text_to form rows i ++ flat_map (hunk_text form) hs) (sym at)
    ∙ sym (flat_map-append (hunk_text form) (rejects_to rows i) (reject_at rows i))
    ∙ ap (flat_map (hunk_text form)) more

-- what comes behind the first rows
abbrev pub text_behind : Form → List Row → ℕ → List ℕ
text_behind form rows n = flat_map (hunk_text form) (flat_map (reject_at rows) (range_with_len (0 + n) (length rows - n)))

pub text-split : (form : Form) (rows : List Row) (n : ℕ) → n ≤ length rows → text_to form rows n ++ text_behind form rows n ≡ flat_map (hunk_text form) (rejects rows)
text-split form rows n le =
    sym (flat_map-append (hunk_text form) (rejects_to rows n) (flat_map (reject_at rows) (range_with_len (0 + n) (length rows - n))))
    ∙ ap (flat_map (hunk_text form)) (sym (flat_map-append (reject_at rows) (range_with_len 0 n) (range_with_len (0 + n) (length rows - n))))
    ∙ ap (λ l. flat_map (hunk_text form) (flat_map (reject_at rows) l)) (sym (range-split 0 (length rows) n le))
    ∙ ap (flat_map (hunk_text form)) (sym (rejects-are rows))

pub cut-off : (form : Form) (rows : List Row) (i : ℕ) (row : Row) → i < length rows → drop i rows ≡ row ∷ drop (i + 1) rows → (text_to form rows i ++ text_at form rows i row) ++ text_behind form rows (i + 1) ≡ flat_map (hunk_text form) (rejects rows)
cut-off form rows i row lt here = ap (λ bs. bs ++ text_behind form rows (i + 1)) (text-more form rows i row here) ∙ text-split form rows (i + 1) (omega arith)

-- ---- the row of a hunk

pub rows-long : (text : List ℕ) (side : Side) (hs : List Hunk) (vs : List Verdict) → length vs ≡ length hs → length (rows_of side (hunks_of text hs) vs) ≡ length hs
rows-long text side hs vs same =
    let a : length (map (turned side) (hunks_of text hs)) ≡ length hs = length-map (hunks_of text hs) (turned side) ∙ length-map hs (hunk_of text) in
    omega (arith, a, length-zip (map (turned side) (hunks_of text hs)) vs)

pub row-at : (text : List ℕ) (side : Side) (hs : List Hunk) (vs : List Verdict) (i : ℕ) (h : Hunk) (d : Verdict) → i < length hs → length vs ≡ length hs → h ≡ get_or hs i h
    → get_or (rows_of side (hunks_of text hs) vs) i (turned side (hunk_of text h), d) ≡ (turned side (hunk_of text h), get_or vs i d)
row-at text side hs vs i h d lt same hunk =
    let ks : List PlainHunk = map (turned side) (hunks_of text hs) in
    let a : length ks ≡ length hs = length-map (hunks_of text hs) (turned side) ∙ length-map hs (hunk_of text) in
    let taken : get_or ks i (turned side (hunk_of text h)) ≡ turned side (hunk_of text h) =
    get_or-map (turned side) (hunks_of text hs) i (hunk_of text h)
    ∙ ap (turned side) (get_or-map (hunk_of text) hs i h)
    ∙ ap (λ x. turned side (hunk_of text x)) (sym hunk) in
    get_or-zip ks vs i (turned side (hunk_of text h), d) (omega arith) (omega arith)
    ∙ ap (λ (x : PlainHunk). (x, get_or vs i d)) taken

pub row-is : (text : List ℕ) (side : Side) (hs : List Hunk) (vs : List Verdict) (i : ℕ) (h : Hunk) (d : Verdict) → i < length hs → length vs ≡ length hs → h ≡ get_or hs i h
    → let rows = rows_of side (hunks_of text hs) vs in drop i rows ≡ (turned side (hunk_of text h), get_or vs i d) ∷ drop (i + 1) rows
row-is text side hs vs i h d lt same hunk =
    let rows : List Row = rows_of side (hunks_of text hs) vs in
    let long : length rows ≡ length hs = rows-long text side hs vs same in
    drop_more rows i (turned side (hunk_of text h), d) (omega arith) ∙ ap (λ (r : Row). r ∷ drop (i + 1) rows) (row-at text side hs vs i h d lt same hunk)

-- ---- the net behind a row

pub net-more : (rows : List Row) (i : ℕ) (d row : Row) → i < length rows → get_or rows i d ≡ row → net (take (i + 1) rows) ≡ net (take i rows) +ℤ (pos (placed_adds row) -ℤ pos (placed_drops row))
net-more rows i d row lt here =
    let a : sum_by placed_adds (take (i + 1) rows) ≡ sum_by placed_adds (take i rows) + placed_adds row = sum_by_more placed_adds rows i d lt ∙ ap (λ r. sum_by placed_adds (take i rows) + placed_adds r) here in
    let b : sum_by placed_drops (take (i + 1) rows) ≡ sum_by placed_drops (take i rows) + placed_drops row = sum_by_more placed_drops rows i d lt ∙ ap (λ r. sum_by placed_drops (take i rows) + placed_drops r) here in
    omega (arith, ints, a, b)
