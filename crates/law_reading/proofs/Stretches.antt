-- Dropped lines come first in each stretch, and each side keeps its lines.
use Rattle.std.proofs.Common.{◌≡◌, ℕ, ◌+◌, false, List, [], ◌∷◌, ◌++◌, map, refl, sym, ap, subst, ◌∙◌}
use Rattle.std.specs.List.{AllByRecursion}
use Rattle.std.proofs.lemmas.List.{append-nil, map-append}
use Rattle.line_list.specs.Lines.{lines}
use Rattle.line_list.specs.declared.Span.{Span}
use Rattle.hunk_core.specs.declared.Form.{Form}
use Rattle.hunk_core.specs.declared.Form.TheVariants as forms
use Rattle.hunk_core.specs.declared.Mark.{Mark}
use Rattle.hunk_core.specs.declared.Mark.TheVariants as its
use Rattle.hunk_core.specs.declared.Side.{Side}
use Rattle.hunk_core.specs.declared.Side.TheVariants.{Forward, Reversed}
use Rattle.hunk_core.specs.PlainHunk.{Marked, PlainHunk, bytes_at, hunks_of, lines_on, old_lines, new_lines}
use Rattle.hunk_core.specs.Turned.{is_keep, swapped, swapped_line}
use Rattle.hunk_core.specs.Pieces.{SpellInTurn}
use Rattle.context_form.specs.Merging.{DropsFirst, part_of}
use Rattle.context_form.specs.Canonical as context
use Rattle.normal_form.specs.Canonical as normal
use Rattle.normal_form.specs.Grammar.{SpellsHunk, on_side}
use Rattle.read_file_patch.specs.declared.Change.{Change}
use Rattle.read_file_patch.specs.declared.Change.TheVariants.{Hunks, Script}
use Rattle.read_file_patch.specs.declared.FilePatch.{FilePatch}
use Rattle.read_file_patch.specs.PlainPatch.{change_of, patch_of, row_count}
use Rattle.read_patch_text.specs.Changes.{SpellChange, Spells}
use Rattle.patch_set.specs.Spans.{ArePlaced}
use Rattle.patch_set.specs.SetView.{SetView, IsWhole, plain_patches}
use Rattle.hunk_core.specs.LineTests.{marked}
use Rattle.context_form.proofs.Sorting.{AreAdded, may-drop, added-forward, added-reversed, part-both, wait-first, sorts}
use Rattle.law_reading.specs.TurnedPatches.{as_shown}
use Rattle.law_reading.specs.AsShown.{AreShown, IsReordered, IsShown}

-- ---- the context form: added lines wait for the end of the stretch
pub context-shown : (h : PlainHunk) → IsReordered h (context.in_order h)
context-shown h = let s = sorts [] h.body tt in record { old_start = refl; new_start = refl; olds = s.forward; news = s.reversed; drops = s.drops }

-- ---- the normal form: no line is kept

abbrev AreChanges : List Marked → Type 0
AreChanges ms = AllByRecursion (λ m. is_keep m.mark ≡ false) ms

changes-on : (side : Side) (body : List Marked) → AreChanges body → part_of side body ≡ on_side side (lines_on side body)
changes-on side [] h = refl
changes-on side (m ∷ body) h = by side m.mark h.0 (changes-on side body h.1)
  where
    by : (s : Side) (mark : Mark) → is_keep mark ≡ false → part_of s body ≡ on_side s (lines_on s body) → part_of s (marked mark m.line ∷ body) ≡ on_side s (lines_on s (marked mark m.line ∷ body))
    by Forward its.Keep off again = absurd cc
    by Forward its.Drop off again = ap (λ ms. marked its.Drop m.line ∷ ms) again
    by Forward its.Add off again = again
    by Reversed its.Keep off again = absurd cc
    by Reversed its.Drop off again = again
    by Reversed its.Add off again = ap (λ ms. marked its.Add m.line ∷ ms) again

dropped-forward : (ls : List (List ℕ)) → part_of Forward (on_side Forward ls) ≡ on_side Forward ls
dropped-forward [] = refl
dropped-forward (l ∷ ls) = ap (λ ms. marked its.Drop l ∷ ms) (dropped-forward ls)

dropped-reversed : (ls : List (List ℕ)) → part_of Reversed (on_side Forward ls) ≡ []
dropped-reversed [] = refl
dropped-reversed (l ∷ ls) = dropped-reversed ls

all-added : (ls : List (List ℕ)) → AreAdded (on_side Reversed ls)
all-added [] = tt
all-added (l ∷ ls) = (refl, all-added ls)

drops-then : (olds : List (List ℕ)) (rest : List Marked) → DropsFirst rest → DropsFirst (on_side Forward olds ++ rest)
drops-then [] rest d = d
drops-then (l ∷ olds) rest d = (may-drop (on_side Forward olds ++ rest), drops-then olds rest d)

normal-shown : (h : PlainHunk) → AreChanges h.body → IsReordered h (normal.in_order h)
normal-shown h changes =
    let olds = old_lines h.body in
    let news = new_lines h.body in record {
      old_start = refl;
      new_start = refl;
      olds = part-both Forward (on_side Forward olds) (on_side Reversed news)
          ∙ ap (λ ms. ms ++ part_of Forward (on_side Reversed news)) (dropped-forward olds)
          ∙ ap (λ ms. on_side Forward olds ++ ms) (added-forward (on_side Reversed news) (all-added news))
          ∙ append-nil (on_side Forward olds)
          ∙ sym (changes-on Forward h.body changes);
      news = part-both Reversed (on_side Forward olds) (on_side Reversed news)
          ∙ ap (λ ms. ms ++ part_of Reversed (on_side Reversed news)) (dropped-reversed olds)
          ∙ added-reversed (on_side Reversed news) (all-added news)
          ∙ sym (changes-on Reversed h.body changes);
      drops = drops-then olds (on_side Reversed news) (subst DropsFirst (append-nil (on_side Reversed news)) (wait-first (on_side Reversed news) [] (all-added news) tt tt));
    }

-- a hunk of the normal form has none, also once it is turned round
swapped-side : (side : Side) (ls : List (List ℕ)) → AreChanges (map swapped_line (on_side side ls))
swapped-side side [] = tt
swapped-side Forward (l ∷ ls) = (refl, swapped-side Forward ls)
swapped-side Reversed (l ∷ ls) = (refl, swapped-side Reversed ls)

changes-both : (xs ys : List Marked) → AreChanges xs → AreChanges ys → AreChanges (xs ++ ys)
changes-both [] ys h k = k
changes-both (x ∷ xs) ys h k = (h.0, changes-both xs ys h.1 k)

spelled-changes : (least : ℕ) (own : List (List ℕ)) (h : PlainHunk) → SpellsHunk least own h → AreChanges (swapped h).body
spelled-changes least [] h s = absurd s
spelled-changes least (line ∷ rest) h s =
    subst (λ ms. AreChanges (map swapped_line ms)) (sym s.3)
    (subst AreChanges (sym (map-append swapped_line (on_side Forward s.1) (on_side Reversed s.2))) (changes-both _ _ (swapped-side Forward s.1) (swapped-side Reversed s.2)))

-- ---- the hunks of a set

one-shown : (form : Form) (least : ℕ) (own : List (List ℕ)) (h : PlainHunk) → Spells form least own h → IsShown form (swapped h) (as_shown form (swapped h))
one-shown forms.Unified least own h s = refl
one-shown forms.Context least own h s = context-shown (swapped h)
one-shown forms.Normal least own h s = normal-shown (swapped h) (spelled-changes least own h s)
one-shown forms.Ed least own h s = refl

each-shown : (text : List ℕ) (form : Form) (least : ℕ) (spans : List Span) (hs : List PlainHunk) → SpellInTurn (Spells form) text least spans hs → AllByRecursion (λ h. IsShown form (swapped h) (as_shown form (swapped h))) hs
each-shown text form least [] [] s = tt
each-shown text form least [] (h ∷ hs) s = absurd s
each-shown text form least (a ∷ spans) [] s = tt
each-shown text form least (a ∷ spans) (h ∷ hs) s = (one-shown form least (lines (bytes_at text a)) h s.0, each-shown text form h.old_start spans hs s.1)

change-shown : (text : List ℕ) (form : Form) (spans : List Span) (c : Change) → SpellChange text form spans (change_of text c) → AreShown form (change_of text c)
change-shown text form spans (Hunks hs) s = each-shown text form 0 spans (hunks_of text hs.items) s
change-shown text form spans (Script script) s = tt

patches-shown : (text : List ℕ) (start before : ℕ) (ps : List FilePatch) → ArePlaced text start before ps → AllByRecursion (λ p. AreShown p.header.form p.change) (map (patch_of text) ps)
patches-shown text start before [] placed = tt
patches-shown text start before (p ∷ ps) placed = (change-shown text p.header.form p.hunk_spans.items p.change placed.0.pieces, patches-shown text p.span.end (before + row_count p.change) ps placed.1)

pub shown-law : (v : SetView) → IsWhole v → AllByRecursion (λ p. AreShown p.header.form p.change) (plain_patches v)
shown-law v whole = patches-shown v.text 0 0 v.patches whole.placed
