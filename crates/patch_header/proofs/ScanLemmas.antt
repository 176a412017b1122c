-- A scan of extended lines, one more with each step.
use Rattle.std.proofs.Common.{◌≡◌, ℕ, ◌+◌, ◌<◌, ◌≤◌, Bool, true, false, cond, ◌||◌, List, [], ◌∷◌, ◌++◌, length, drop, slice_range, refl, sym, ap, ◌∙◌, arith, append_assoc}
use Rattle.std.specs.Prelude.{sum_by}
use Rattle.std.proofs.lemmas.List.{append-nil}
use Rattle.std.proofs.lemmas.List.Sums.{sum_by-append}
use Rattle.line_list.specs.Lines.{lines, IsLineAt}
use Rattle.patch_header.specs.Content.{is_dot, has_dot}
use Rattle.patch_header.specs.GitHeaders.{is_extended, extended_run, behind_run, git_header, asks_alone}
use Rattle.patch_header.specs.GitRows.{git_lines_in}
use Rattle.patch_header.specs.Region.{row, rows}
use Rattle.patch_header.specs.Said.{said_with, asks_said, SaysWithin}
use Rattle.patch_header.specs.Scanning.{HasScanned, IsBlock}
use Rattle.patch_header.specs.declared.bare.Block.{Block}
use Rattle.patch_header.specs.declared.git_lines.GitLines.{GitLines}
use Rattle.patch_header.proofs.GitLemmas.{said-push, asks-is, lines-back}
use Rattle.patch_header.proofs.Rows.{line_length}

pub run-more : (line : List ℕ) (rest : List (List ℕ)) → is_extended line ≡ true → extended_run (line ∷ rest) ≡ line ∷ extended_run rest
unfolding extended_run
run-more line rest e = rw e refl

pub behind-more : (line : List ℕ) (rest : List (List ℕ)) → is_extended line ≡ true → behind_run (line ∷ rest) ≡ behind_run rest
unfolding behind_run
behind-more line rest e = rw e refl

pub run-stops : (line : List ℕ) (rest : List (List ℕ)) → is_extended line ≡ false → extended_run (line ∷ rest) ≡ []
unfolding extended_run
run-stops line rest e = rw e refl

pub behind-stops : (line : List ℕ) (rest : List (List ℕ)) → is_extended line ≡ false → behind_run (line ∷ rest) ≡ line ∷ rest
unfolding behind_run
behind-stops line rest e = rw e refl

pub run-none : extended_run [] ≡ []
unfolding extended_run
run-none = refl

pub behind-none : behind_run [] ≡ []
unfolding behind_run
behind-none = refl

-- the run and what is behind it are all
pub run-split : (ls : List (List ℕ)) → ls ≡ extended_run ls ++ behind_run ls
unfolding extended_run behind_run
run-split [] = refl
run-split (line ∷ rest) = by (is_extended line) (run-split rest)
  where
    by : (v : Bool) → rest ≡ extended_run rest ++ behind_run rest → line ∷ rest ≡ cond v (line ∷ extended_run rest) [] ++ cond v (behind_run rest) (line ∷ rest)
    by true more = ap (λ ls. line ∷ ls) more
    by false more = refl

sum-cons : (one : List ℕ) (more : List (List ℕ)) → sum_by length (one ∷ more) ≡ (0 + length one) + sum_by length more
sum-cons one more = sum_by-append length (one ∷ []) more

pub scan-begins : (text : List ℕ) (at number : ℕ) (s : GitLines) → at ≤ length text → s ≡ git_lines_in [] → SaysWithin text s → HasScanned text at number (record { end = at; number = number; lines = s })
scan-begins text at number s within e lies = record {
  within = within;
  low = omega arith;
  count = omega arith;
  passed = [];
  said = e;
  run = refl;
  behind = refl;
  place = refl;
  counted = refl;
  lies = lies;
}

pub scan-push : (text : List ℕ) (at number : ℕ) (here : Block) (end : ℕ) (next : GitLines) → HasScanned text at number here → IsLineAt text here.end end → is_extended (slice_range text here.end end) ≡ true
    → next ≡ said_with here.lines (row here.number here.end (slice_range text here.end end)) → SaysWithin text next → HasScanned text at number (record { end = end; number = here.number + 1; lines = next })
scan-push text at number here end next h line extended e lies =
    let one = slice_range text here.end end in
    let rest = lines (drop end text) in
    let r = row here.number here.end one in
    let ahead : extended_run (lines (drop here.end text)) ≡ one ∷ extended_run rest = ap extended_run line.first ∙ run-more one rest extended in
    let far : here.end + length one ≡ end = line_length text here.end end line in
    let low : at ≤ here.end = h.low in
    let further : here.end < end = line.low in
    let count : here.number + at ≤ number + here.end = h.count in
    let sums : sum_by length (extended_run (lines (drop here.end text))) ≡ (0 + length one) + sum_by length (extended_run rest) = ap (sum_by length) ahead ∙ sum-cons one (extended_run rest) in
    let longer : length (extended_run (lines (drop here.end text))) ≡ length (one ∷ extended_run rest) = ap length ahead in
    let place : at + sum_by length (extended_run (lines (drop at text))) ≡ here.end + sum_by length (extended_run (lines (drop here.end text))) = h.place in
    let counted : number + length (extended_run (lines (drop at text))) ≡ here.number + length (extended_run (lines (drop here.end text))) = h.counted in
    record {
      within = line.high;
      low = omega (arith, low, further);
      count = omega (arith, count, further);
      passed = h.passed ++ r ∷ [];
      said = e ∙ ap (λ s. said_with s r) h.said ∙ sym (said-push h.passed r);
      run = h.run
          ∙ ap (λ ls. h.passed ++ rows here.number here.end ls) ahead
          ∙ ap (λ p. h.passed ++ (r ∷ rows (here.number + 1) p (extended_run rest))) far
          ∙ sym (append_assoc h.passed (r ∷ []) (rows (here.number + 1) end (extended_run rest)));
      behind = h.behind ∙ ap behind_run line.first ∙ behind-more one rest extended;
      place = omega (arith, place, sums, far);
      counted = omega (arith, counted, longer);
      lies = lies;
    }

scan-done : (text : List ℕ) (at number : ℕ) (here : Block) → HasScanned text at number here → extended_run (lines (drop here.end text)) ≡ [] → behind_run (lines (drop here.end text)) ≡ lines (drop here.end text) → IsBlock text at number here
scan-done text at number here h none all =
    let run = extended_run (lines (drop at text)) in
    let said : here.lines ≡ git_lines_in (rows number at run) = h.said ∙ sym (ap git_lines_in (h.run ∙ ap (λ ls. h.passed ++ rows here.number here.end ls) none ∙ append-nil h.passed)) in
    let sums : sum_by length (extended_run (lines (drop here.end text))) ≡ 0 = ap (sum_by length) none in
    let longer : length (extended_run (lines (drop here.end text))) ≡ 0 = ap length none in
    let place : at + sum_by length run ≡ here.end + sum_by length (extended_run (lines (drop here.end text))) = h.place in
    let counted : number + length run ≡ here.number + length (extended_run (lines (drop here.end text))) = h.counted in
    record {
      within = h.within;
      low = h.low;
      count = h.count;
      said = said;
      asks = ap asks_said said ∙ asks-is (rows number at run) ∙ ap asks_alone (lines-back number at run);
      behind = h.behind ∙ all;
      place = omega (arith, place, sums);
      counted = omega (arith, counted, longer);
      lies = h.lies;
    }

-- the run ends at a line that goes on with none, and at the end of the text
pub scan-stops : (text : List ℕ) (at number : ℕ) (here : Block) (end : ℕ) → HasScanned text at number here → IsLineAt text here.end end → is_extended (slice_range text here.end end) ≡ false → IsBlock text at number here
scan-stops text at number here end h line e =
    let one = slice_range text here.end end in
    let rest = lines (drop end text) in
    scan-done text at number here h (ap extended_run line.first ∙ run-stops one rest e) (ap behind_run line.first ∙ behind-stops one rest e ∙ sym line.first)

pub scan-ends : (text : List ℕ) (at number : ℕ) (here : Block) → HasScanned text at number here → lines (drop here.end text) ≡ [] → IsBlock text at number here
scan-ends text at number here h e = scan-done text at number here h (ap extended_run e ∙ run-none) (ap behind_run e ∙ behind-none ∙ sym e)

-- ---- a git header with its git line

pub header-sum : (text : List ℕ) (at end : ℕ) → IsLineAt text at end → at + sum_by length (git_header (lines (drop at text))) ≡ end + sum_by length (extended_run (lines (drop end text)))
header-sum text at end line =
    let one = slice_range text at end in
    let run = extended_run (lines (drop end text)) in
    let far : at + length one ≡ end = line_length text at end line in
    let sums : sum_by length (git_header (lines (drop at text))) ≡ (0 + length one) + sum_by length run = ap (λ ls. sum_by length (git_header ls)) line.first ∙ sum-cons one run in
    omega (arith, far, sums)

pub header-count : (text : List ℕ) (at end : ℕ) → IsLineAt text at end → length (git_header (lines (drop at text))) ≡ length (extended_run (lines (drop end text))) + 1
header-count text at end line =
    let longer : length (git_header (lines (drop at text))) ≡ length (slice_range text at end ∷ extended_run (lines (drop end text))) = ap (λ ls. length (git_header ls)) line.first in
    omega (arith, longer)

pub header-split : (text : List ℕ) (at end number : ℕ) (b : Block) → IsLineAt text at end → IsBlock text end number b → lines (drop at text) ≡ git_header (lines (drop at text)) ++ lines (drop b.end text)
header-split text at end number b line block =
    let one = slice_range text at end in
    let rest = lines (drop end text) in
    line.first
    ∙ ap (λ ls. one ∷ ls) (run-split rest ∙ ap (λ ls. extended_run rest ++ ls) block.behind)
    ∙ sym (ap (λ ls. git_header ls ++ lines (drop b.end text)) line.first)

pub header-none : (text : List ℕ) (at : ℕ) → lines (drop at text) ≡ [] → (sum_by length (git_header (lines (drop at text))) ≡ 0) × (length (git_header (lines (drop at text))) ≡ 0) × (lines (drop at text) ≡ git_header (lines (drop at text)) ++ lines (drop at text))
header-none text at e = (ap (λ ls. sum_by length (git_header ls)) e, ap (λ ls. length (git_header ls)) e, e ∙ sym (ap (λ ls. git_header ls ++ ls) e))

-- behind lines that hold no '.', if the whole holds none
none-behind : (xs ys : List (List ℕ)) → has_dot (xs ++ ys) ≡ false → has_dot ys ≡ false
none-behind [] ys h = h
none-behind (x ∷ xs) ys h = none-behind xs ys (or_right (is_dot x) (has_dot (xs ++ ys)) h)
  where
    or_right : (v w : Bool) → (v || w) ≡ false → w ≡ false
    or_right true w e = absurd cc
    or_right false w e = e

pub header-dots : (text : List ℕ) (at end number : ℕ) (b : Block) → IsLineAt text at end → IsBlock text end number b → has_dot (lines (drop at text)) ≡ false → has_dot (lines (drop b.end text)) ≡ false
header-dots text at end number b line block h =
    none-behind (git_header (lines (drop at text))) (lines (drop b.end text)) (sym (ap has_dot (header-split text at end number b line block)) ∙ h)
