-- Hunks that were read in the normal form have their dropped lines in front.
use Rattle.std.proofs.Common.{◌≡◌, ℕ, true, List, [], ◌∷◌, ◌++◌, refl, ap, cond, ◌∙◌}
use Rattle.std.specs.Prelude.{All}
use Rattle.std.specs.List.{AllByRecursion}
use Rattle.std.proofs.lemmas.List.Elements.{All-from_recursion}
use Rattle.line_list.specs.declared.Span.{Span}
use Rattle.hunk_core.specs.declared.Form.{Form}
use Rattle.hunk_core.specs.declared.Form.TheVariants.{Unified, Context, Normal, Ed}
use Rattle.hunk_core.specs.declared.Hunk.{Hunk}
use Rattle.hunk_core.specs.declared.HunkLine.{HunkLine}
use Rattle.hunk_core.specs.declared.Mark.TheVariants.{Drop, Add}
use Rattle.hunk_core.specs.declared.Side.TheVariants.{Forward, Reversed}
use Rattle.hunk_core.specs.PlainHunk.{Marked, body_of, hunk_of, hunks_of, marked_of, bytes_at}
use Rattle.hunk_core.specs.Turned.{is_drop}
use Rattle.hunk_core.specs.Pieces.{SpellInTurn}
use Rattle.line_list.specs.Lines.{lines}
use Rattle.normal_form.specs.Canonical.{are_added, drops_come_first}
use Rattle.normal_form.specs.Grammar.{SpellsHunk, on_side}
use Rattle.normal_form.proofs.WritingLemmas.{added-nil}
use Rattle.read_patch_text.specs.Changes.{Spells}
use Rattle.flip_patch.specs.Ordered.{IsOrdered}

added-step : (l : HunkLine) (ls : List HunkLine) → l.mark ≡ Add → are_added ls ≡ true → are_added (l ∷ ls) ≡ true
unfolding are_added
added-step l ls e again = rw e again

dropped-step : (l : HunkLine) (ls : List HunkLine) → l.mark ≡ Drop → drops_come_first ls ≡ true → drops_come_first (l ∷ ls) ≡ true
unfolding drops_come_first
dropped-step l ls e again = rw e again

behind-drops : (l : HunkLine) (ls : List HunkLine) → l.mark ≡ Add → are_added (l ∷ ls) ≡ true → drops_come_first (l ∷ ls) ≡ true
unfolding drops_come_first
behind-drops l ls e again = ap (λ k. cond (is_drop k) (drops_come_first ls) (are_added (l ∷ ls))) e ∙ again

none-dropped : drops_come_first [] ≡ true
unfolding drops_come_first
none-dropped = refl

mark-first : (m n : Marked) (ms ns : List Marked) → m ∷ ms ≡ n ∷ ns → m.mark ≡ n.mark
mark-first m n ms ns e = let same : m ≡ n = cc in ap (λ (x : Marked). x.mark) same

behind-first : (m n : Marked) (ms ns : List Marked) → m ∷ ms ≡ n ∷ ns → ms ≡ ns
behind-first m n ms ns e = cc

adds : (text : List ℕ) (ls : List HunkLine) (news : List (List ℕ)) → body_of text ls ≡ on_side Reversed news → are_added ls ≡ true
adds text [] news e = added-nil
adds text (l ∷ ls) [] e = absurd (cc)
adds text (l ∷ ls) (n ∷ news) e =
    added-step l ls (mark-first (marked_of text l) _ (body_of text ls) (on_side Reversed news) e) (adds text ls news (behind-first (marked_of text l) _ (body_of text ls) (on_side Reversed news) e))

no-drops : (text : List ℕ) (ls : List HunkLine) (news : List (List ℕ)) → body_of text ls ≡ on_side Reversed news → drops_come_first ls ≡ true
no-drops text [] news e = none-dropped
no-drops text (l ∷ ls) [] e = absurd (cc)
no-drops text (l ∷ ls) (n ∷ news) e = behind-drops l ls (mark-first (marked_of text l) _ (body_of text ls) (on_side Reversed news) e) (adds text (l ∷ ls) (n ∷ news) e)

drops-first : (text : List ℕ) (ls : List HunkLine) (olds news : List (List ℕ)) → body_of text ls ≡ on_side Forward olds ++ on_side Reversed news → drops_come_first ls ≡ true
drops-first text ls [] news e = no-drops text ls news e
drops-first text [] (o ∷ olds) news e = none-dropped
drops-first text (l ∷ ls) (o ∷ olds) news e =
    dropped-step l ls (mark-first (marked_of text l) _ (body_of text ls) (on_side Forward olds ++ on_side Reversed news) e)
    (drops-first text ls olds news (behind-first (marked_of text l) _ (body_of text ls) (on_side Forward olds ++ on_side Reversed news) e))

spelled-order : (text : List ℕ) (least : ℕ) (own : List (List ℕ)) (h : Hunk) → SpellsHunk least own (hunk_of text h) → drops_come_first h.body.items ≡ true
spelled-order text least [] h s = absurd s
spelled-order text least (line ∷ rest) h s = drops-first text h.body.items s.1 s.2 s.3

one : (text : List ℕ) (form : Form) (least : ℕ) (own : List (List ℕ)) (h : Hunk) → Spells form least own (hunk_of text h) → IsOrdered form h
one text Unified least own h s = tt
one text Context least own h s = tt
one text Normal least own h s = spelled-order text least own h s
one text Ed least own h s = tt

each : (text : List ℕ) (form : Form) (least : ℕ) (spans : List Span) (hs : List Hunk) → SpellInTurn (Spells form) text least spans (hunks_of text hs) → AllByRecursion (IsOrdered form) hs
each text form least [] [] s = tt
each text form least [] (h ∷ hs) s = absurd s
each text form least (a ∷ spans) [] s = absurd s
each text form least (a ∷ spans) (h ∷ hs) s = (one text form least (lines (bytes_at text a)) h s.0, each text form h.old_start spans hs s.1)

pub all-ordered : (text : List ℕ) (form : Form) (spans : List Span) (hs : List Hunk) → SpellInTurn (Spells form) text 0 spans (hunks_of text hs) → All (IsOrdered form) hs
all-ordered text form spans hs s = All-from_recursion (IsOrdered form) hs (each text form 0 spans hs s)
