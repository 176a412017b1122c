-- Where hunks begin, one behind the other, and the lines that tell it.
use Rattle.std.proofs.Common.{◌≡◌, ℕ, zero, suc, ◌+◌, ◌-◌, ◌<◌, ◌≤◌, ◌==◌, List, [], ◌∷◌, ◌++◌, length, map, get_or, Some, refl, sym, ap, ◌∙◌, length-take, arith}
use Rattle.std.specs.Prelude.{slice_get, drop}
use Rattle.std.proofs.lemmas.List.{length-map}
use Rattle.std.proofs.lemmas.List.Sums.{count_by-le-length}
use Rattle.line_list.specs.declared.Span.{Span}
use Rattle.hunk_core.specs.PlainHunk.{bytes_at}
use Rattle.read_file_patch.specs.declared.FilePatch.{FilePatch}
use Rattle.read_file_patch.specs.PlainPatch.{row_count}
use Rattle.patch_set.specs.Spans.{IsPlaced}
use Rattle.hunk_core.specs.declared.Form.{Form}
use Rattle.hunk_core.specs.declared.Form.TheVariants.{Unified, Context, Normal, Ed}
use Rattle.hunk_core.specs.Pieces.{AreInTurn}
use Rattle.filter_choice.proofs.Placed.{turn-end, turn-with}
use Rattle.patch_filters.specs.HunkLines.{feeds, first_line, hunk_line, hunk_lines, lines_from}
use Rattle.patch_filters.specs.Filtered.{pieces}

-- the number of the line at which the hunk behind so many others begins
abbrev pub begun : ℕ → ℕ → List (List ℕ) → ℕ
begun line zero ps = line
begun line (suc i) [] = line
begun line (suc i) (p ∷ ps) = begun (line + feeds p) i ps

module _ (label : List ℕ) where
  pub lines-long : (line number : ℕ) (ps : List (List ℕ)) → length (lines_from label line number ps) ≡ length ps
  lines-long line number [] = refl
  lines-long line number (p ∷ ps) = ap suc (lines-long (line + feeds p) (suc number) ps)

  pub line-at : (line number i : ℕ) (ps : List (List ℕ)) → i < length ps → slice_get (lines_from label line number ps) i ≡ Some (label ++ hunk_line (begun line i ps) (number + i))
  line-at line number i [] lt = absurd (omega (arith, lt))
  line-at line number zero (p ∷ ps) lt = let e : number ≡ number + 0 = omega arith in ap (λ n. Some (label ++ hunk_line line n)) e
  line-at line number (suc i) (p ∷ ps) lt =
      let e : suc number + i ≡ number + suc i = omega arith in
      line-at (line + feeds p) (suc number) i ps (omega (arith, lt)) ∙ ap (λ n. Some (label ++ hunk_line (begun (line + feeds p) i ps) n)) e

begun-more : (line i : ℕ) (ps : List (List ℕ)) → i < length ps → begun line (suc i) ps ≡ begun line i ps + feeds (get_or ps i [])
begun-more line i [] lt = absurd (omega (arith, lt))
begun-more line zero (p ∷ ps) lt = refl
begun-more line (suc i) (p ∷ ps) lt = begun-more (line + feeds p) i ps (omega (arith, lt))

pub begun-next : (line i now more : ℕ) (ps : List (List ℕ)) → i < length ps → now ≡ begun line i ps → more ≡ feeds (get_or ps i []) → now + more ≡ begun line (i + 1) ps
begun-next line i now more ps lt is count =
    let e : suc i ≡ i + 1 = omega arith in
    ap (λ n. n + more) is ∙ ap (λ n. begun line i ps + n) count ∙ sym (begun-more line i ps lt) ∙ ap (λ k. begun line k ps) e

-- those of a file patch
module _ (text : List ℕ) (p : FilePatch) where
  abbrev pub first : ℕ
  first = first_line p.header.form p.header.opening

  pub pieces-long : length (pieces text p) ≡ length p.hunk_spans.items
  pieces-long = length-map p.hunk_spans.items (bytes_at text)

  pub hunk-lines-long : (label : List ℕ) → length (hunk_lines label text p) ≡ length p.hunk_spans.items
  hunk-lines-long label = lines-long label first 1 (pieces text p) ∙ pieces-long

  pub shown-at : (label : List ℕ) (i line : ℕ) → i < length p.hunk_spans.items → line ≡ begun first i (pieces text p) → slice_get (hunk_lines label text p) i ≡ Some (label ++ hunk_line line (i + 1))
  shown-at label i line lt is =
      let e : 1 + i ≡ i + 1 = omega arith in
      line-at label first 1 i (pieces text p) (omega (arith, lt, pieces-long))
      ∙ ap (λ n. Some (label ++ hunk_line n (1 + i))) (sym is)
      ∙ ap (λ n. Some (label ++ hunk_line line n)) e

  pub line-next : (i line more : ℕ) → i < length p.hunk_spans.items → line ≡ begun first i (pieces text p) → more ≡ feeds (get_or (pieces text p) i []) → line + more ≡ begun first (i + 1) (pieces text p)
  line-next i line more lt is count = begun-next first i line more (pieces text p) (omega (arith, lt, pieces-long)) is count

-- no hunk begins further behind the first than all of them are long
few-feeds : (text : List ℕ) (s : Span) → feeds (bytes_at text s) ≤ s.end - s.start
few-feeds text s = omega (arith, count_by-le-length (λ b. b == 10) (bytes_at text s), length-take (s.end - s.start) (drop s.start text))

pub begun-few : (text : List ℕ) (line at end i : ℕ) (ss : List Span) → AreInTurn at ss end → begun line i (map (bytes_at text) ss) + at ≤ line + end
begun-few text line at end zero ss turn = omega (arith, turn-end at ss end turn)
begun-few text line at end (suc i) [] turn = omega (arith, turn-end at [] end turn)
begun-few text line at end (suc i) (s ∷ ss) turn =
    omega (arith, begun-few text (line + feeds (bytes_at text s)) s.end end i ss turn.2, few-feeds text s, turn.0, turn.1)

pub line-few : (text : List ℕ) (start before : ℕ) (p : FilePatch) (i k : ℕ) → IsPlaced text start before p → i < row_count p.change → begun (first text p) k (pieces text p) ≤ p.span.end + 2
line-few text start before p i k at lt =
    omega (arith, begun-few text (first text p) p.header.at p.span.end k p.hunk_spans.items (turn-with text start before p i at lt), first-few p.header.form p.header.opening, at.number)
  where
    first-few : (form : Form) (opening : ℕ) → first_line form opening ≤ opening + 1
    first-few Unified opening = omega arith
    first-few Context opening = omega arith
    first-few Normal opening = omega arith
    first-few Ed opening = omega arith
