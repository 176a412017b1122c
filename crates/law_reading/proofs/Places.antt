-- Lines of a text and the places where they stand.
use Rattle.std.proofs.Common.{◌≡◌, ◌+◌, ◌-◌, ◌≤◌, ℕ, List, [], ◌∷◌, ◌++◌, length, take, drop, sym, ap, subst, ◌∙◌, arith}
use Rattle.std.specs.Prelude.{sum_by}
use Rattle.std.specs.List.{AllByRecursion}
use Rattle.std.proofs.Math.Seq.{take-append_seam, drop-append_seam}
use Rattle.std.proofs.lemmas.List.{length-append, length-drop, drop-take, drop-drop, take-take}
use Rattle.std.proofs.lemmas.List.Concat.{flat_map-append, flat_map-cons, length-flat_map}
use Rattle.std.proofs.lemmas.List.Sums.{sum_by-cons}
use Rattle.line_list.specs.Lines.{lines, ArePieces}
use Rattle.line_list.proofs.Pieces.{joined, lines-joined, lines-pieces, pieces-only}
use Rattle.hunk_core.proofs.PieceLemmas.{pieces-last}
use Rattle.patch_header.specs.Region.{Row, rows}

-- the bytes from a place on are those of the lines there
bytes-are : (text : List ℕ) (at : ℕ) (own rest : List (List ℕ)) → lines (drop at text) ≡ own ++ rest → drop at text ≡ joined own ++ joined rest
bytes-are text at own rest e = sym (lines-joined (drop at text)) ∙ ap joined e ∙ flat_map-append (λ line. line) own rest

-- behind some lines the others stand
pub skip-lines : (text : List ℕ) (at : ℕ) (own rest : List (List ℕ)) → lines (drop at text) ≡ own ++ rest → lines (drop (at + sum_by length own) text) ≡ rest
skip-lines text at own rest e =
    let width : sum_by length own ≡ length (joined own) = sym (length-flat_map (λ (line : List ℕ). line) own) in
    let left : drop (at + sum_by length own) text ≡ joined rest =
    sym (drop-drop (sum_by length own) at text)
    ∙ ap (drop (sum_by length own)) (bytes-are text at own rest e)
    ∙ ap (λ n. drop n (joined own ++ joined rest)) width
    ∙ drop-append_seam (joined own) (joined rest) in
    ap lines left ∙ pieces-only rest (pieces-last own rest (subst ArePieces e (lines-pieces (drop at text))))

pub skip-line : (text : List ℕ) (at : ℕ) (line : List ℕ) (rest : List (List ℕ)) → lines (drop at text) ≡ line ∷ rest → lines (drop (at + length line) text) ≡ rest
skip-line text at line rest e =
    let one : at + sum_by length (line ∷ []) ≡ at + length line = omega (arith, sum_by-cons length line []) in
    ap (λ k. lines (drop k text)) (sym one) ∙ skip-lines text at (line ∷ []) rest e

-- they end within the text
pub lines-within : (text : List ℕ) (at : ℕ) (own rest : List (List ℕ)) → at ≤ length text → lines (drop at text) ≡ own ++ rest → at + sum_by length own ≤ length text
lines-within text at own rest le e =
    let width : sum_by length own ≡ length (joined own) = sym (length-flat_map (λ (line : List ℕ). line) own) in
    let all : length (drop at text) ≡ length (joined own) + length (joined rest) = ap length (bytes-are text at own rest e) ∙ length-append (joined own) (joined rest) in
    omega (arith, width, all, length-drop at text, le)

-- a line is the bytes from its place on
pub first-bytes : (text : List ℕ) (at : ℕ) (line : List ℕ) (rest : List (List ℕ)) → lines (drop at text) ≡ line ∷ rest → take (length line) (drop at text) ≡ line
first-bytes text at line rest e =
    ap (take (length line)) (sym (lines-joined (drop at text)) ∙ ap joined e ∙ flat_map-cons (λ (l : List ℕ). l) line rest)
    ∙ take-append_seam line (joined rest)

-- a row stands at its place
pub record StandsAt (text : List ℕ) (r : Row) : Type 0 where
  pub bytes : take (length r.line) (drop r.start text) ≡ r.line

pub rows-stand : (text : List ℕ) (number at : ℕ) (own rest : List (List ℕ)) → lines (drop at text) ≡ own ++ rest → AllByRecursion (StandsAt text) (rows number at own)
rows-stand text number at [] rest e = tt
rows-stand text number at (line ∷ own) rest e =
    (record { bytes = first-bytes text at line (own ++ rest) e }, rows-stand text (number + 1) (at + length line) own rest (skip-line text at line (own ++ rest) e))

-- bytes within others
pub take-inside : (text bytes : List ℕ) (at most k n : ℕ) → take most (drop at text) ≡ bytes → k + n ≤ most → take n (drop (at + k) text) ≡ take n (drop k bytes)
take-inside text bytes at most k n e le =
    let width : most ≡ k + (n + (most - (k + n))) = omega (arith, le) in
    let rest = most - (k + n) in
    let all : drop k bytes ≡ take (n + rest) (drop (at + k) text) =
    ap (drop k) (sym e)
    ∙ ap (λ m. drop k (take m (drop at text))) width
    ∙ drop-take k (n + rest) (drop at text)
    ∙ ap (take (n + rest)) (drop-drop k at text) in
    let short : n ≤ n + rest = omega arith in
    sym (ap (take n) all ∙ take-take n (n + rest) (drop (at + k) text) short)
