-- Lines of 12 bytes, found again by their numbers.
use Rattle.std.proofs.Common.{◌≡◌, ℕ, zero, suc, ◌+◌, ◌-◌, ◌*◌, ◌≤◌, ◌<◌, List, ◌++◌, length, take, drop, refl, sym, ap, ◌∙◌, arith, length-append}
use Rattle.std.specs.List.{flat_map, range_with_len}
use Rattle.std.proofs.Math.Seq.{take-append_seam, drop-append_seam, drop-append-add}
use Rattle.patch_gen.specs.Texts.{extra_line, extra_lines, extra_count, file_line, file_lines, file_text, line_in}
use Rattle.patch_gen.specs.Patches.{hunk_from, hunk_text}

-- pieces of one length
pub length-run : (f : ℕ → List ℕ) (w a n : ℕ) → ((j : ℕ) → length (f j) ≡ w) → length (flat_map f (range_with_len a n)) ≡ w * n
length-run f w a zero h = let none : 0 ≡ w * 0 = omega arith in none
length-run f w a (suc n) h =
    let on : w + w * n ≡ w * suc n = grind arith in
    length-append (f a) (flat_map f (range_with_len (a + 1) n)) ∙ ap (λ k. k + length (flat_map f (range_with_len (a + 1) n))) (h a) ∙ ap (λ k. w + k) (length-run f w (a + 1) n h) ∙ on

found : (f : ℕ → List ℕ) (a n k : ℕ) → ((j : ℕ) → length (f j) ≡ 12) → k < n → take 12 (drop (12 * k) (flat_map f (range_with_len a n))) ≡ f (a + k)
found f a zero k h lt = absurd (omega arith)
found f a (suc n) zero h lt =
    let rest = flat_map f (range_with_len (a + 1) n) in
    let here : a ≡ a + 0 = omega arith in
    ap (λ w. take w (f a ++ rest)) (sym (h a)) ∙ take-append_seam (f a) rest ∙ ap f here
found f a (suc n) (suc k) h lt =
    let rest = flat_map f (range_with_len (a + 1) n) in
    let far : 12 * suc k ≡ length (f a) + 12 * k = omega (arith, h a) in
    let same : (a + 1) + k ≡ a + suc k = omega arith in
    ap (λ w. take 12 (drop w (f a ++ rest))) far ∙ ap (take 12) (drop-append-add (f a) rest (12 * k)) ∙ found f (a + 1) n k h (omega arith) ∙ ap f same

pub line-found : (f : ℕ → List ℕ) (n j : ℕ) → ((i : ℕ) → length (f i) ≡ 12) → 1 ≤ j → j ≤ n → line_in (flat_map f (range_with_len 1 n)) j ≡ f j
line-found f n j h some most =
    let wide : 12 * j - 12 * (j - 1) ≡ 12 = omega arith in
    let at : 1 + (j - 1) ≡ j = omega arith in
    ap (λ w. take w (drop (12 * (j - 1)) (flat_map f (range_with_len 1 n)))) wide ∙ found f 1 n (j - 1) h (omega arith) ∙ ap f at

-- a hunk over the same lines is the same
same-hunk : (f g : ℕ → List ℕ) (s : ℕ) (new : List ℕ) → ((j : ℕ) → s ≤ j → j ≤ s + 6 → f j ≡ g j) → hunk_from f s new ≡ hunk_from g s new
same-hunk f g s new h =
    rw (h s (omega arith) (omega arith), h (s + 1) (omega arith) (omega arith), h (s + 1 + 1) (omega arith) (omega arith), h (s + 3) (omega arith) (omega arith), h (s + 4) (omega arith) (omega arith), h (s + 4 + 1) (omega arith) (omega arith), h (s + 4 + 1 + 1) (omega arith) (omega arith)) refl

same-hunks-from : (f g : ℕ → List ℕ) (a n : ℕ) → 1 ≤ a → ((j : ℕ) → 1 ≤ j → j ≤ 20 * (a + n) - 20 → f j ≡ g j) → flat_map (hunk_text f) (range_with_len a n) ≡ flat_map (hunk_text g) (range_with_len a n)
same-hunks-from f g a zero some h = refl
same-hunks-from f g a (suc n) some h =
    ap (λ t. t ++ flat_map (hunk_text f) (range_with_len (a + 1) n)) (same-hunk f g (20 * a - 13) _ (λ j low high. h j (omega arith) (omega arith)))
    ∙ ap (λ t. hunk_text g a ++ t) (same-hunks-from f g (a + 1) n (omega arith) (λ j low high. h j low (omega arith)))

pub same-hunks : (f g : ℕ → List ℕ) (n : ℕ) → ((j : ℕ) → 1 ≤ j → j ≤ 20 * n → f j ≡ g j) → flat_map (hunk_text f) (range_with_len 1 n) ≡ flat_map (hunk_text g) (range_with_len 1 n)
same-hunks f g n h = same-hunks-from f g 1 n (omega arith) (λ j low high. h j low (omega arith))

-- the numbered lines of a file
pub numbered-part : (x lines : ℕ) → drop (length (file_text x lines) - 12 * lines) (file_text x lines) ≡ file_lines x lines
numbered-part x lines =
    let extras = extra_lines (extra_count x) in
    let numbered = file_lines x lines in
    let front : length (file_text x lines) - 12 * lines ≡ length extras = omega (arith, length-append extras numbered, length-run (file_line x) 12 1 lines (λ j. refl)) in
    ap (λ k. drop k (file_text x lines)) front ∙ drop-append_seam extras numbered

pub length-text : (x lines : ℕ) → length (file_text x lines) ≡ 12 * (extra_count x + lines)
length-text x lines = omega (arith, length-append (extra_lines (extra_count x)) (file_lines x lines), length-run extra_line 12 1 (extra_count x) (λ j. refl), length-run (file_line x) 12 1 lines (λ j. refl))
