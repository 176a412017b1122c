-- What the edits of hunks at their bases make of a list.
use Rattle.std.proofs.Common.{◌≡◌, ℕ, ◌+◌, ◌-◌, ◌≤◌, List, [], ◌∷◌, ◌++◌, length, take, drop, refl, sym, ap, subst, ◌∙◌, arith}
use Rattle.std.proofs.lemmas.List.{append-nil, take_all, length-drop}
use Rattle.std.proofs.Math.Seq.{take-append_seam}
use Rattle.hunk_core.specs.declared.Mark.{Mark}
use Rattle.hunk_core.specs.declared.Mark.TheVariants.{Keep, Drop, Add}
use Rattle.hunk_core.specs.PlainHunk.{Marked, PlainHunk, old_lines, new_lines}
use Rattle.hunk_core.specs.Turned.{base, swapped}
use Rattle.line_store.specs.Store.{line_at}
use Rattle.hunk_apply.specs.Splice.{AreFrom, Edit, all_edits, body_edits, spliced_from}
use Rattle.hunk_apply.specs.Written.{lines_between}
use Rattle.hunk_apply.proofs.BodyLemmas.{body-from, edits-from, edits-mark, edits-none}
use Rattle.hunk_apply.proofs.CopyLemmas.{between-take, kept}
use Rattle.hunk_apply.proofs.FoldLemmas.{edits-cons, edits-nil}
use Rattle.hunk_apply.proofs.SpliceLemmas.{from-append, line-added, line-dropped, line-kept, nothing-left, sooner}
use Rattle.line_list.proofs.Elements.{front-is, front-rest}
use Rattle.law_filters.proofs.Placed.{as_stated, stands-at}
use Rattle.law_filters.proofs.Turns.{Turns}

-- a body whose old lines stand here gives its new lines in place of them
pub body-splice : (lines : List (List ℕ)) (b end : ℕ) (ms : List Marked) (later : List Edit) (rest : List (List ℕ)) → 1 ≤ b → end ≡ b + length (old_lines ms) → end ≤ length lines + 1
    → drop (b - 1) lines ≡ old_lines ms ++ rest → AreFrom end later → spliced_from lines (body_edits b ms ++ later) b ≡ new_lines ms ++ spliced_from lines later end
body-splice lines b end [] later rest low is room on from =
    let z : end ≡ b = omega (arith, is) in
    ap (λ es. spliced_from lines (es ++ later) b) (edits-none b) ∙ ap (spliced_from lines later) (sym z)
body-splice lines b end (m ∷ ms) later rest low is room on from = by m.mark is on (body-splice lines b end ms later rest low) (body-splice lines (b + 1) end ms later rest (omega (arith, low)))
  where
    by : (k : Mark) → let y : Marked = record { mark = k; line = m.line } in end ≡ b + length (old_lines (y ∷ ms)) → drop (b - 1) lines ≡ old_lines (y ∷ ms) ++ rest
        → (end ≡ b + length (old_lines ms) → end ≤ length lines + 1 → drop (b - 1) lines ≡ old_lines ms ++ rest → AreFrom end later → spliced_from lines (body_edits b ms ++ later) b ≡ new_lines ms ++ spliced_from lines later end)
        → (end ≡ b + 1 + length (old_lines ms) → end ≤ length lines + 1 → drop (b + 1 - 1) lines ≡ old_lines ms ++ rest → AreFrom end later → spliced_from lines (body_edits (b + 1) ms ++ later) (b + 1) ≡ new_lines ms ++ spliced_from lines later end)
        → spliced_from lines (body_edits b (y ∷ ms) ++ later) b ≡ new_lines (y ∷ ms) ++ spliced_from lines later end
    by Keep is on same next =
        let a : b - 1 + 1 ≡ b + 1 - 1 = omega (arith, low) in
        let here : line_at lines b ≡ m.line = front-is lines (old_lines ms ++ rest) m.line [] (b - 1) on in
        let es : List Edit = body_edits (b + 1) ms ++ later in
        ap (λ x. spliced_from lines (x ++ later) b) (edits-mark b Keep m.line ms)
        ∙ line-kept lines es b (omega (arith, is, room)) (body-from (b + 1) end ms later (omega (arith, is)) from)
        ∙ ap (λ (l : List ℕ). l ∷ spliced_from lines es (b + 1)) here
        ∙ ap (λ (ls : List (List ℕ)). m.line ∷ ls) (next (omega (arith, is)) room (ap (λ k. drop k lines) (sym a) ∙ front-rest lines (old_lines ms ++ rest) m.line (b - 1) on) from)
    by Drop is on same next =
        let a : b - 1 + 1 ≡ b + 1 - 1 = omega (arith, low) in
        let es : List Edit = body_edits (b + 1) ms ++ later in
        ap (λ x. spliced_from lines (x ++ later) b) (edits-mark b Drop m.line ms)
        ∙ line-dropped lines es b (omega (arith, is, room)) (body-from (b + 1) end ms later (omega (arith, is)) from)
        ∙ next (omega (arith, is)) room (ap (λ k. drop k lines) (sym a) ∙ front-rest lines (old_lines ms ++ rest) m.line (b - 1) on) from
    by Add is on same next =
        let es : List Edit = body_edits b ms ++ later in
        ap (λ x. spliced_from lines (x ++ later) b) (edits-mark b Add m.line ms)
        ∙ line-added lines es b m.line (omega (arith, is, room))
        ∙ ap (λ (ls : List (List ℕ)). m.line ∷ ls) (same is room on from)

-- ---- hunks at their bases

abbrev pub stated_edits : List PlainHunk → List Edit
stated_edits hs = all_edits (as_stated hs) hs

stated-cons : (h : PlainHunk) (hs : List PlainHunk) → stated_edits (h ∷ hs) ≡ body_edits (base h) h.body ++ stated_edits hs
stated-cons h hs = edits-cons _ (as_stated hs) h hs

pub stated-from : (q r : ℕ) (old new : List (List ℕ)) (hs : List PlainHunk) → Turns q r old new hs → AreFrom q (stated_edits hs)
stated-from q r old new [] ts = subst (AreFrom q) (sym (edits-nil (as_stated []))) tt
stated-from q r old new (h ∷ hs) (front, (rest, (more, (t, ts)))) =
    let later = stated-from (base h + length (old_lines h.body)) (base (swapped h) + length (new_lines h.body)) rest more hs ts in
    subst (AreFrom q) (sym (stated-cons h hs))
    (from-append q (body_edits (base h) h.body) (stated_edits hs)
    (sooner q (base h) (body_edits (base h) h.body) (omega (arith, t.old_base)) (edits-from (base h) h.body))
    (sooner q (base h + length (old_lines h.body)) (stated_edits hs) (omega (arith, t.old_base)) later))

-- without edits the rest of a list stays
nothing : (lines : List (List ℕ)) (q : ℕ) → 1 ≤ q → q ≤ length lines + 1 → spliced_from lines [] q ≡ drop (q - 1) lines
nothing lines q low room =
    let e : q + (length lines + 1 - q) ≡ length lines + 1 = omega (arith, room) in
    sym (kept lines [] q (length lines + 1) low room (omega arith) tt)
    ∙ ap (λ ls. lines_between lines q (length lines + 1) ++ ls) (nothing-left lines) ∙ append-nil (lines_between lines q (length lines + 1))
    ∙ ap (lines_between lines q) (sym e) ∙ between-take lines q (length lines + 1 - q) low
    ∙ take_all (length lines + 1 - q) (drop (q - 1) lines) (omega (arith, length-drop (q - 1) lines, low, room))

-- the one list with these edits is the other one
pub spliced-turns : (lines : List (List ℕ)) (q r : ℕ) (old new : List (List ℕ)) (hs : List PlainHunk) → 1 ≤ q → q ≤ length lines + 1 → drop (q - 1) lines ≡ old → Turns q r old new hs → spliced_from lines (stated_edits hs) q ≡ new
spliced-turns lines q r old new [] low room is ts = ap (λ es. spliced_from lines es q) (edits-nil (as_stated [])) ∙ nothing lines q low room ∙ is ∙ ts
spliced-turns lines q r old new (h ∷ hs) low room is (front, (rest, (more, (t, ts)))) =
    let at = stands-at lines q r old new h hs front rest more low room is t in
    let b : ℕ = base h in
    let end : ℕ = base h + length (old_lines h.body) in
    let later : List Edit = stated_edits hs in
    let from = stated-from end (base (swapped h) + length (new_lines h.body)) rest more hs ts in
    let es : List Edit = body_edits (base h) h.body ++ stated_edits hs in
    let e : q + length front ≡ base h = sym t.old_base in
    let skipped : lines_between lines q (base h) ≡ front =
    ap (lines_between lines q) (sym e) ∙ between-take lines q (length front) low ∙ ap (take (length front)) (is ∙ t.from) ∙ take-append_seam front (old_lines h.body ++ rest) in
    ap (λ x. spliced_from lines x q) (stated-cons h hs)
    ∙ sym (kept lines es q (base h) low (omega (arith, t.old_base)) (omega (arith, at.0.high)) (body-from (base h) end h.body later (omega arith) from))
    ∙ ap (λ ls. ls ++ spliced_from lines es (base h)) skipped
    ∙ ap (λ ls. front ++ ls) (body-splice lines (base h) end h.body later (drop (base h - 1 + length (old_lines h.body)) lines) at.0.low refl at.0.high at.0.on from)
    ∙ ap (λ ls. front ++ (new_lines h.body ++ ls)) (spliced-turns lines end (base (swapped h) + length (new_lines h.body)) rest more hs (omega (arith, at.0.low)) at.0.high at.1 ts)
    ∙ sym t.to
