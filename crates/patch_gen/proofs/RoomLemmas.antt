-- How long a patch is.
use Rattle.std.proofs.Common.{◌≡◌, ℕ, zero, suc, ◌+◌, ◌-◌, ◌*◌, ◌/◌, ◌^◌, ◌<◌, ◌≤◌, List, [], ◌∷◌, ◌++◌, length, codes, ap, arith, length-append}
use Rattle.std.specs.List.{flat_map, range_with_len}
use Rattle.num_text.specs.Numbers.{decimal}
use Rattle.patch_gen.specs.Patches.{file_name, header_lines, range_line, kept_lines, hunk_text, new_line}
use Rattle.patch_gen.specs.Texts.{file_line}
use Rattle.patch_gen.specs.Tree.{file_state, made_patch}
use Rattle.patch_gen.proofs.RunLemmas.{run-next}
use Rattle.patch_gen.proofs.LineLemmas.{length-run}

pub header-length : (i : ℕ) → length (header_lines i) ≡ 20 + 2 * length (decimal i)
header-length i = omega (arith, length-append (decimal i) (10 ∷ (codes "+++ " ++ file_name i ++ 10 ∷ [])), length-append (decimal i) (10 ∷ []))

range-length : (s : ℕ) → length (range_line s) ≡ 14 + 2 * length (decimal s)
range-length s = simp length-append (omega arith)

five : (a b d e f : List ℕ) → length (a ++ b ++ d ++ e ++ f) ≡ length a + length b + length d + length e + length f
five a b d e f = simp length-append

pub hunk-length : (line : ℕ → List ℕ) (h : ℕ) → ((j : ℕ) → length (line j) ≡ 12) → length (hunk_text line h) ≡ 118 + 2 * length (decimal (20 * h - 13))
hunk-length line h twelve =
    let s = 20 * h - 13 in
    let kept : (from : ℕ) → length (kept_lines line from) ≡ 39 = λ from. length-run (λ j. 32 ∷ line j) 13 from 3 (λ j. ap suc (twelve j)) in
    omega (arith, five (range_line s) (kept_lines line s) (45 ∷ line (s + 3)) (43 ∷ new_line (20 * h - 10)) (kept_lines line (s + 4)), range-length s, kept s, kept (s + 4), twelve (s + 3))

pub length-next : (f : ℕ → List ℕ) (n total piece new : ℕ) → length (flat_map f (range_with_len 1 n)) ≡ total → length (f (n + 1)) ≡ piece → new ≡ total + piece → length (flat_map f (range_with_len 1 (n + 1))) ≡ new
length-next f n total piece new e is is-new = omega (arith, ap length (run-next f n), length-append (flat_map f (range_with_len 1 n)) (f (n + 1)))

-- the hunks of every file are as long
pub whole : (seed lines each a n : ℕ) → ((x : ℕ) → length (flat_map (hunk_text (file_line x)) (range_with_len 1 (lines / 20))) ≡ each)
    → length (flat_map (made_patch seed lines) (range_with_len a n)) ≡ length (flat_map header_lines (range_with_len a n)) + n * each
whole seed lines each a zero h = omega arith
whole seed lines each a (suc n) h =
    let x = file_state seed lines a in
    let hunks = flat_map (hunk_text (file_line x)) (range_with_len 1 (lines / 20)) in
    let on : suc n * each ≡ each + n * each = grind arith in
    omega (arith, length-append (header_lines a ++ hunks) (flat_map (made_patch seed lines) (range_with_len (a + 1) n)), length-append (header_lines a) hunks, length-append (header_lines a) (flat_map header_lines (range_with_len (a + 1) n)), h x, whole seed lines each (a + 1) n h)

times-le : (n a b : ℕ) → a ≤ b → n * a ≤ n * b
times-le zero a b le = omega arith
times-le (suc n) a b le =
    let few : suc n * a ≡ a + n * a = grind arith in
    let most : suc n * b ≡ b + n * b = grind arith in
    omega (arith, few, most, le, times-le n a b le)

-- how many hunks there are
pub hunks-fit : (files lines : ℕ) → files * lines ≤ 10000000 → files * (lines / 20) < 2 ^ 32
hunks-fit files lines few = omega (arith, few, times-le files (lines / 20) lines (omega arith))
