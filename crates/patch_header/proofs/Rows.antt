-- The lines in front of an opening, one more with each step.
use Rattle.std.proofs.Common.{◌≡◌, ℕ, ◌+◌, ◌-◌, ◌<◌, ◌≤◌, Bool, true, false, cond, eqb, ltb, List, [], ◌∷◌, ◌++◌, length, take, drop, slice_range, None, Some, refl, sym, ap, ◌∙◌, arith, length-take, length-drop, append_assoc}
use Rattle.std.specs.Prelude.{sum_by}
use Rattle.std.proofs.lemmas.Bool.{ltb-true, ltb-false}
use Rattle.std.proofs.lemmas.List.{drop_all}
use Rattle.std.proofs.lemmas.List.Sums.{sum_by-append}
use Rattle.line_list.specs.Lines.{lines, IsLineAt}
use Rattle.patch_header.specs.declared.read_options.ReadOptions.{ReadOptions}
use Rattle.hunk_core.specs.LineTests.{after, ends_line}
use Rattle.patch_header.specs.Content.{content}
use Rattle.patch_header.specs.Openings.{stop_at}
use Rattle.patch_header.specs.Region.{row, rows}
use Rattle.patch_header.specs.Steps.{AreQuiet, IsRegion}
use Rattle.patch_header.specs.declared.openings.Stop.{Stop}
use Rattle.patch_header.proofs.Stands.{stop-end}

-- what begins with a prefix is as long at least
pub prefix_fits : (mark bytes rest : List ℕ) → after mark bytes ≡ Some rest → length mark ≤ length bytes
unfolding after
prefix_fits [] bytes rest e = omega arith
prefix_fits (p ∷ mark) [] rest e = absurd cc
prefix_fits (p ∷ mark) (b ∷ bytes) rest e = by (eqb b p) e (prefix_fits mark bytes rest)
  where
    by : (v : Bool) → cond v (after mark bytes) None ≡ Some rest → (after mark bytes ≡ Some rest → length mark ≤ length bytes) → length (p ∷ mark) ≤ length (b ∷ bytes)
    by true h more = let le : length mark ≤ length bytes = more h in omega arith
    by false h more = absurd cc

pub content_short : (line : List ℕ) → length (content line) ≤ length line
content_short line = by (ends_line line)
  where
    by : (v : Bool) → length (cond v (take (length line - 1) line) line) ≤ length line
    by true = omega (arith, length-take (length line - 1) line)
    by false = omega arith

pub line_length : (text : List ℕ) (at end : ℕ) → IsLineAt text at end → at + length (slice_range text at end) ≡ end
line_length text at end line =
    let low : at < end = line.low in
    let high : end ≤ length text = line.high in
    let left : length (drop at text) ≡ length text - at = length-drop at text in
    omega (arith, length-take (end - at) (drop at text))

pub rows-push : (number start : ℕ) (ls : List (List ℕ)) (line : List ℕ) → rows number start (ls ++ line ∷ []) ≡ rows number start ls ++ row (number + length ls) (start + sum_by length ls) line ∷ []
rows-push number start [] line =
    let n : number + 0 ≡ number = omega arith in
    let s : start + 0 ≡ start = omega arith in
    rw (n, s) refl
rows-push number start (l ∷ ls) line =
    let n : (number + 1) + length ls ≡ number + length (l ∷ ls) = omega arith in
    let sum : sum_by length (l ∷ ls) ≡ (0 + length l) + sum_by length ls = sum_by-append length (l ∷ []) ls in
    let s : (start + length l) + sum_by length ls ≡ start + sum_by length (l ∷ ls) = omega arith in
    let last : row ((number + 1) + length ls) ((start + length l) + sum_by length ls) line ≡ row (number + length (l ∷ ls)) (start + sum_by length (l ∷ ls)) line
    = ap (λ k. row k ((start + length l) + sum_by length ls) line) n ∙ ap (λ k. row (number + length (l ∷ ls)) k line) s in
    ap (λ rs. row number start l ∷ rs) (rows-push (number + 1) (start + length l) ls line)
    ∙ ap (λ r. rows number start (l ∷ ls) ++ r ∷ []) last

pub quiet-push : (ways : ReadOptions) (ls : List (List ℕ)) (line : List ℕ) (rest : List (List ℕ)) → AreQuiet ways ls (line ∷ rest) → stop_at ways (line ∷ rest) ≡ None → AreQuiet ways (ls ++ line ∷ []) rest
quiet-push ways [] line rest h none = (none, tt)
quiet-push ways (l ∷ ls) line rest h none =
    let same : (ls ++ line ∷ []) ++ rest ≡ ls ++ line ∷ rest = append_assoc ls (line ∷ []) rest in
    (ap (λ more. stop_at ways (l ∷ more)) same ∙ h.0, quiet-push ways ls line rest h.1 none)

pub region-push : (ways : ReadOptions) (text : List ℕ) (at : ℕ) (region : List (List ℕ)) (place end : ℕ) → IsRegion ways text at region place → IsLineAt text place end → stop_at ways (lines (drop place text)) ≡ None
    → IsRegion ways text at (region ++ slice_range text place end ∷ []) end
region-push ways text at region place end h line none =
    let one = slice_range text place end in
    let rest = lines (drop end text) in
    let far : place + length one ≡ end = line_length text place end line in
    let sum : sum_by length (region ++ one ∷ []) ≡ sum_by length region + sum_by length (one ∷ []) = sum_by-append length region (one ∷ []) in
    let was : place ≡ at + sum_by length region = h.ends in
    let quiet : AreQuiet ways region (one ∷ rest) = rw line.first at h.quiet in
    record {
      parts = h.parts ∙ ap (λ ls. region ++ ls) line.first ∙ sym (append_assoc region (one ∷ []) rest);
      ends = rw sum (omega arith);
      quiet = quiet-push ways region one rest quiet (rw line.first at none);
    }

pub no-lines : lines [] ≡ []
unfolding lines
no-lines = refl

-- where something stands, the text goes on
pub stands-within : (ways : ReadOptions) (text : List ℕ) (place : ℕ) (stop : Stop) → place ≤ length text → stop_at ways (lines (drop place text)) ≡ Some stop → place < length text
stands-within ways text place stop le h = by (ltb place (length text)) refl
  where
    by : (v : Bool) → ltb place (length text) ≡ v → place < length text
    by true e = ltb-true place (length text) e
    by false e =
        let all : length text ≤ place = ltb-false place (length text) e in
        let empty : lines (drop place text) ≡ [] = ap lines (drop_all place text all) ∙ no-lines in
        let none : stop_at ways (lines (drop place text)) ≡ None = ap (stop_at ways) empty ∙ stop-end ways in
        absurd cc
