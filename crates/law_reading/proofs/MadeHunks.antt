-- The hunks over a made file, as lines that spell them.
use Rattle.std.proofs.Common.{◌≡◌, ◌≢◌, ℕ, zero, suc, ◌+◌, ◌-◌, ◌*◌, ◌/◌, ◌%◌, ◌^◌, ◌≤◌, Bool, true, false, cond, ◌&&◌, ◌||◌, eqb, List, [], ◌∷◌, ◌++◌, map, take, Option, None, Some, refl, sym, ap, ◌∙◌, arith, append_assoc}
use Rattle.std.specs.Prelude.{nat_lt, codes}
use Rattle.std.specs.List.{AllByRecursion, flat_map, range_with_len}
use Rattle.std.proofs.lemmas.Bool.Decides.{nat_tests}
use Rattle.num_text.specs.Numbers.{decimal}
use Rattle.hunk_core.specs.declared.Form.TheVariants.{Unified}
use Rattle.hunk_core.specs.declared.check.BadHunk.{BadHunk}
use Rattle.hunk_core.specs.declared.check.BadHunk.TheVariants.{Start, Sum}
use Rattle.hunk_core.specs.PlainHunk.{PlainHunk}
use Rattle.hunk_core.specs.Rules.{HasNoInnerFeed, first_broken}
use Rattle.unified_form.specs.Canonical.{canonical}
use Rattle.patch_gen.specs.Patches.{hunk_text, kept_lines, new_line}
use Rattle.patch_gen.specs.Texts.{file_line, in_places, line_value}
use Rattle.flip_patch.specs.Flipped as flipped
use Rattle.law_reading.specs.TurnedPatches.{as_shown}
use Rattle.law_reading.proofs.Hunks.{IsBody, IsGood, Rising, body-of}
use Rattle.law_reading.specs.MadePatches.{body_from, made_hunk, made_hunks}

-- ---- no line feed within a line

digit-no : (d : ℕ) → 48 + d ≢ 10
digit-no d e = omega (arith, e)

places-clean : (w n : ℕ) (more : List ℕ) → AllByRecursion (λ b. b ≢ 10) more → AllByRecursion (λ b. b ≢ 10) (in_places w n ++ more)
places-clean zero n more all = all
places-clean (suc w) n more all = (digit-no (n / 10 ^ w % 10), places-clean w n more all)

line-clean : (x j : ℕ) → AllByRecursion (λ b. b ≢ 10) (take 11 (file_line x j))
line-clean x j = places-clean 7 j (32 ∷ (in_places 3 (line_value x j) ++ [])) ((λ e. cc), places-clean 3 (line_value x j) [] tt)

new-clean : (j : ℕ) → AllByRecursion (λ b. b ≢ 10) (take 11 (new_line j))
new-clean j = ((λ e. cc), ((λ e. cc), ((λ e. cc), ((λ e. cc), places-clean 7 j [] tt))))

body-clean : (x s j : ℕ) → AllByRecursion HasNoInnerFeed (body_from (file_line x) s (new_line j))
body-clean x s j = (
  line-clean x s,
  (
    line-clean x (s + 1),
    (
      line-clean x (s + 1 + 1),
      (line-clean x (s + 3), (new-clean j, (line-clean x (s + 4), (line-clean x (s + 4 + 1), (line-clean x (s + 4 + 1 + 1), tt))))),
    ),
  ),
)

-- ---- no rule is broken

abbrev broken : Bool → Bool → Option BadHunk
broken a b = cond ((a && true) || (a && true)) (Some Start) (cond (b || b) (Some Sum) None)

unbroken : (x h : ℕ) → 1 ≤ h → h ≤ 500000 → first_broken (made_hunk (file_line x) h) ≡ None
unbroken x h some few =
    let begins : eqb (20 * h - 13) 0 ≡ false = grind (arith, nat_tests) in
    let fits : nat_lt 4294967295 ((20 * h - 13) + 7) ≡ false = grind (arith, nat_tests) in
    ap (λ a. broken a (nat_lt 4294967295 ((20 * h - 13) + 7))) begins ∙ ap (broken false) fits

made-good : (x h : ℕ) → 1 ≤ h → h ≤ 500000 → IsGood (made_hunk (file_line x) h)
made-good x h some few = record { unbroken = unbroken x h some few; clean = body-clean x (20 * h - 13) (20 * h - 10) }

-- ---- it is written as the unified form writes it

regroup : (p ds m q t u a b d e : List ℕ) → (p ++ ((ds ++ m) ++ (q ++ ((ds ++ m) ++ (t ++ u))))) ++ (a ++ (b ++ (d ++ e))) ≡ (p ++ ds ++ (m ++ q) ++ ds ++ (m ++ t) ++ u) ++ a ++ b ++ d ++ e
regroup p ds m q t u a b d e = simp append_assoc

written : (x h : ℕ) → canonical (made_hunk (file_line x) h) ≡ hunk_text (file_line x) h
written x h =
    let line = file_line x in
    let s = 20 * h - 13 in
    regroup (codes "@@ -") (decimal s) (codes ",7") (codes " +") (codes " @@") (10 ∷ []) (kept_lines line s) (45 ∷ line (s + 3)) (43 ∷ new_line (20 * h - 10)) (kept_lines line (s + 4))

-- ---- all hunks of a file

-- the hunks from this number on, so many
abbrev run_of : ℕ → ℕ → ℕ → List PlainHunk
run_of x a n = map (made_hunk (file_line x)) (range_with_len a n)

run-good : (x a n : ℕ) → 1 ≤ a → a + n ≤ 500001 → AllByRecursion IsGood (run_of x a n)
run-good x a zero some few = tt
run-good x a (suc n) some few = (made-good x a some (omega (arith, few)), run-good x (a + 1) n (omega arith) (omega (arith, few)))

run-rises : (x a n least : ℕ) → least ≤ 20 * a - 13 → Rising least (map (λ h. h.old_start) (run_of x a n))
run-rises x a zero least le = tt
run-rises x a (suc n) least le = (le, run-rises x (a + 1) n (20 * a - 13) (omega arith))

shown-same : (x a n : ℕ) → map (as_shown Unified) (run_of x a n) ≡ run_of x a n
shown-same x a zero = refl
shown-same x a (suc n) = ap (λ hs. made_hunk (file_line x) a ∷ hs) (shown-same x (a + 1) n)

texts-are : (x a n : ℕ) → flat_map (flipped.hunk_text Unified) (run_of x a n) ≡ flat_map (hunk_text (file_line x)) (range_with_len a n)
texts-are x a zero = refl
texts-are x a (suc n) = ap (λ t. t ++ flat_map (flipped.hunk_text Unified) (run_of x (a + 1) n)) (written x a) ∙ ap (λ t. hunk_text (file_line x) a ++ t) (texts-are x (a + 1) n)

-- the lines of all hunks
pub body-for : (x n : ℕ) → n ≤ 500000 → (body : List (List ℕ)) × IsBody Unified 0 (run_of x 1 n) body
body-for x n few = body-of Unified 0 (run_of x 1 n) tt (run-good x 1 n (omega arith) (omega (arith, few))) (run-rises x 1 n 0 (omega arith))

pub body-text : (x n : ℕ) (body : List (List ℕ)) → IsBody Unified 0 (run_of x 1 n) body → flat_map (hunk_text (file_line x)) (range_with_len 1 n) ≡ flat_map (λ line. line) body
body-text x n body is = sym (texts-are x 1 n) ∙ is.is

pub body-hunks : (x n : ℕ) → map (as_shown Unified) (run_of x 1 n) ≡ made_hunks (file_line x) n
body-hunks x n = shown-same x 1 n
