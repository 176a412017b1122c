-- The header of a bare git header, by its lines.
use Rattle.std.proofs.Common.{◌≡◌, ℕ, ◌+◌, ◌-◌, ◌*◌, ◌/◌, ◌%◌, true, false, List, length, drop, slice_range, Option, None, Some, refl, sym, ap, ◌∙◌, arith, length-drop}
use Rattle.std.specs.Prelude.{codes, bytes_eq, ◌==◌}
use Rattle.std.specs.List.{position}
use Rattle.std.proofs.Math.Nat.{div-add-mod}
use Rattle.std.proofs.lemmas.Bool.{eqb-true}
use Rattle.std.proofs.lemmas.List.{take_all}
use Rattle.line_list.specs.declared.Span.{Span}
use Rattle.line_list.specs.Lines.{lines, IsLineAt}
use Rattle.hunk_core.specs.declared.Form.{Form}
use Rattle.patch_header.specs.GitHeaders.{extended_run, action_of}
use Rattle.patch_header.specs.GitRows.{git_lines_in, lines_of, from_in, to_in, half, has_halves, are_alike, git_rest, extended_rows}
use Rattle.patch_header.specs.Kept.{opening_said, bare_said}
use Rattle.patch_header.specs.Region.{Row, row, rows, tail_of}
use Rattle.patch_header.specs.Steps.{header_with, bare_with}
use Rattle.patch_header.specs.declared.region.Tail.{Tail}
use Rattle.patch_header.specs.declared.region.LastHeaderLines.{LastHeaderLines}
use Rattle.read_header_record.specs.declared.Action.{Action}
use Rattle.patch_header.specs.declared.git_lines.GitLines.{GitLines}
use Rattle.read_header_record.specs.declared.Header.{Header}
use Rattle.patch_header.proofs.GitLemmas.{action-is, from-is, to-is}
use Rattle.patch_header.proofs.Rows.{line_length}
use Rattle.patch_header.proofs.Stands.{and_left}

abbrev turned : Header → Action → Option Span → Option Span → Header
turned h a f t = record h { action = a; from = f; to = t }

pub opening-is : (text : List ℕ) (form : Form) (at opening : ℕ) (seen : LastHeaderLines) (gs : List Row) → opening_said text form at opening seen (git_lines_in gs) ≡ header_with text form at opening seen gs
opening-is text form at opening seen gs =
    let s = git_lines_in gs in
    let h = opening_said text form at opening seen s in
    ap (λ a. turned h a h.from h.to) (action-is gs)
    ∙ ap (λ f. turned h (action_of (lines_of gs)) f h.to) (from-is gs)
    ∙ ap (λ t. turned h (action_of (lines_of gs)) (from_in gs) t) (to-is gs)

bare-by : (text : List ℕ) (at number : ℕ) (rs : List Row) (rest : Option Tail) (gs : List Row) → bare_said text at number rs rest (git_lines_in gs) ≡ turned (bare_said text at number rs rest (git_lines_in gs)) (action_of (lines_of gs)) (from_in gs) (to_in gs)
bare-by text at number rs rest gs =
    let h = bare_said text at number rs rest (git_lines_in gs) in
    ap (λ a. turned h a h.from h.to) (action-is gs)
    ∙ ap (λ f. turned h (action_of (lines_of gs)) f h.to) (from-is gs)
    ∙ ap (λ t. turned h (action_of (lines_of gs)) (from_in gs) t) (to-is gs)

pub bare-is : (text : List ℕ) (at end number : ℕ) (rs : List Row) (rest : Option Tail) (s : GitLines) → IsLineAt text at end → rest ≡ tail_of (codes "diff --git ") (row number at (slice_range text at end))
    → s ≡ git_lines_in (rows (number + 1) end (extended_run (lines (drop end text)))) → bare_said text at number rs rest s ≡ bare_with text at number rs
bare-is text at end number rs rest s line e k =
    let ls = lines (drop at text) in
    let tail : rest ≡ git_rest number at ls = e ∙ sym (ap (git_rest number at) line.first) in
    let run : extended_rows number at ls ≡ rows (number + 1) end (extended_run (lines (drop end text)))
    = ap (extended_rows number at) line.first ∙ ap (λ p. rows (number + 1) p (extended_run (lines (drop end text)))) (line_length text at end line) in
    ap (λ t. bare_said text at number rs t s) tail
    ∙ ap (λ x. bare_said text at number rs (git_rest number at ls) x) (k ∙ sym (ap git_lines_in run))
    ∙ bare-by text at number rs (git_rest number at ls) (extended_rows number at ls)

-- ---- the halves

pub alike-none : (old new : List ℕ) → position (λ b. b == 47) old ≡ None → position (λ b. b == 47) new ≡ None → are_alike old new ≡ bytes_eq old new
alike-none old new e f = rw (e, f) refl

pub alike-other : (old new : List ℕ) (l : ℕ) → position (λ b. b == 47) old ≡ None → position (λ b. b == 47) new ≡ Some l → are_alike old new ≡ false
alike-other old new l e f = rw (e, f) refl

pub alike-one : (old new : List ℕ) (k : ℕ) → position (λ b. b == 47) old ≡ Some k → position (λ b. b == 47) new ≡ None → are_alike old new ≡ false
alike-one old new k e f = rw (e, f) refl

pub alike-both : (old new : List ℕ) (k l : ℕ) → position (λ b. b == 47) old ≡ Some k → position (λ b. b == 47) new ≡ Some l → are_alike old new ≡ bytes_eq (drop (k + 1) old) (drop (l + 1) new)
alike-both old new k l e f = rw (e, f) refl

-- all behind a place
pub rest-all : (xs : List ℕ) (k : ℕ) → slice_range xs k (length xs) ≡ drop k xs
rest-all xs k = take_all (length xs - k) (drop k xs) (omega (arith, length-drop k xs))

pub odd-half : (bytes : List ℕ) → has_halves bytes ≡ true → half bytes + half bytes + 1 ≡ length bytes
unfolding has_halves
odd-half bytes h =
    let odd : length bytes % 2 ≡ 1 = eqb-true (length bytes % 2) 1 (and_left _ _ h) in
    let all : 2 * (length bytes / 2) + length bytes % 2 ≡ length bytes = div-add-mod (length bytes) 2 in
    omega (arith, odd, all)
