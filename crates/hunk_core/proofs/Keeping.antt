-- Hunks that are kept as they are read, each with its piece.
use Rattle.std.proofs.Common.{◌≡◌, ℕ, ◌+◌, ◌≤◌, ◌<◌, None, List, [], ◌∷◌, ◌++◌, drop, slice_range, length, refl, sym, ap, ◌∙◌, arith}
use Rattle.std.proofs.lemmas.List.{length-append, length-drop, map_push}
use Rattle.std.proofs.lemmas.List.Elements.{All-push}
use Rattle.std.proofs.lemmas.List.Sums.{sum_by-append}
use Rattle.line_list.specs.Lines.{lines}
use Rattle.line_list.specs.declared.Span.{Span}
use Rattle.line_list.proofs.Pieces.{joined, lines-joined}
use Rattle.hunk_core.specs.declared.Hunk.{Hunk}
use Rattle.hunk_core.specs.PlainHunk.{PlainHunk, hunk_of}
use Rattle.hunk_core.specs.Rules.{first_broken}
use Rattle.hunk_core.specs.Turned.{IsLawful}
use Rattle.hunk_core.specs.Following.{AreKept}
use Rattle.hunk_core.proofs.PieceLemmas.{spans_begin, spans_go_on}

-- a piece that isn't empty has lines
pub fewer-behind : (text : List ℕ) (at next : ℕ) → at < next → next ≤ length text → lines (drop at text) ≡ lines (slice_range text at next) ++ lines (drop next text) → length (lines (drop next text)) < length (lines (drop at text))
fewer-behind text at next some high whole = by (lines (slice_range text at next)) whole
  where
    by : (own : List (List ℕ)) → lines (drop at text) ≡ own ++ lines (drop next text) → length (lines (drop next text)) < length (lines (drop at text))
    by [] e =
        let same : drop at text ≡ drop next text = sym (lines-joined (drop at text)) ∙ ap joined e ∙ lines-joined (drop next text) in
        absurd (omega (arith, some, high, ap length same, length-drop at text, length-drop next text))
    by (line ∷ own) e = omega (arith, ap length e, length-append (line ∷ own) (lines (drop next text)))

-- one more
pub kept-push : (Spells : ℕ → List (List ℕ) → PlainHunk → Type 0) (text : List ℕ) (from : ℕ) (hs : List PlainHunk) (at next least : ℕ) (items : List Hunk) (spans : List Span) (h : Hunk)
    → at < next → lines (drop at text) ≡ lines (slice_range text at next) ++ lines (drop next text) → Spells least (lines (slice_range text at next)) (hunk_of text h) → at + length h.body.items ≤ next → IsLawful text h → first_broken (hunk_of text h) ≡ None
    → AreKept Spells text from hs at least items spans → AreKept Spells text from (hs ++ hunk_of text h ∷ []) next h.old_start (items ++ h ∷ []) (spans ++ (record { start = at; end = next }) ∷ [])
kept-push Spells text from hs at next least items spans h some whole piece few lawful unbroken kept =
    record {
      are = ap (λ (ps : List PlainHunk). ps ++ hunk_of text h ∷ []) kept.are ∙ sym (map_push (hunk_of text) items h);
      pieces = spans_go_on Spells text from spans hs at next least (hunk_of text h) kept.pieces some whole piece;
      count = omega (arith, length-append items (h ∷ []), some, kept.count);
      few = rw (sum_by-append (λ (x : Hunk). length x.body.items) items (h ∷ [])) (omega (arith, few, kept.few));
      lawful = All-push (IsLawful text) items h kept.lawful lawful;
      unbroken = All-push (λ x. first_broken (hunk_of text x) ≡ None) items h kept.unbroken unbroken;
    }

-- none yet
pub kept-none : (Spells : ℕ → List (List ℕ) → PlainHunk → Type 0) (text : List ℕ) (at : ℕ) (items : List Hunk) (spans : List Span) → items ≡ [] → spans ≡ [] → AreKept Spells text at [] at 0 items spans
kept-none Spells text at items spans none empty = rw none (record { are = refl; pieces = spans_begin Spells text at spans empty; count = omega arith; few = omega arith; lawful = λ k d l. absurd (omega (arith, l)); unbroken = λ k d l. absurd (omega (arith, l)) })
