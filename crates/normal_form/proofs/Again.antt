-- The canonical text of a hunk that breaks no rule is read as that hunk.
use Rattle.std.proofs.Common.{◌≡◌, ℕ, ◌+◌, ◌<◌, Bool, true, false, cond, eqb, List, [], ◌∷◌, ◌++◌, length, map, None, refl, subst, arith}
use Rattle.std.specs.Prelude.{filter}
use Rattle.std.specs.List.{AllByRecursion}
use Rattle.std.proofs.lemmas.Bool.{eqb-true}
use Rattle.line_list.specs.Lines.{lines}
use Rattle.hunk_core.specs.declared.Mark.{Mark}
use Rattle.hunk_core.specs.declared.Mark.TheVariants as its
use Rattle.hunk_core.specs.declared.Side.TheVariants.{Forward, Reversed}
use Rattle.hunk_core.specs.Sides.{is_on_side}
use Rattle.hunk_core.specs.PlainHunk.{Marked, PlainHunk, old_lines, new_lines}
use Rattle.hunk_core.specs.LineTests.{after_backslash}
use Rattle.hunk_core.specs.Rules.{starts_at_zero, first_broken, HasNoInnerFeed}
use Rattle.hunk_core.specs.Reading.{ahead}
use Rattle.line_list.proofs.WholeLines.{LinesFit}
use Rattle.hunk_core.proofs.Grammars.{reads_first}
use Rattle.hunk_core.proofs.RuleLemmas.{kept, fits-back}
use Rattle.hunk_core.proofs.LineEnds.{clean-on, lines-fit}
use Rattle.normal_form.specs.Hunks.{begins_hunk, hunk_at}
use Rattle.normal_form.specs.Grammar.{command_of, AreFair, SpellsHunk, IsPiece}
use Rattle.normal_form.specs.Canonical.{action_for, canonical, in_order, SpellsFirst}
use Rattle.normal_form.proofs.Pieces.{SpellsIn, grammar, reading_again}
use Rattle.normal_form.proofs.Canonical.{hunk_lines, body-spelled, Starts, command-spelled, text-lines}

-- ---- no rule is broken
starts-back : (start : ℕ) (side : List (List ℕ)) → starts_at_zero start side ≡ false → Starts start side
starts-back start side e none_before = by (eqb (length side) 0) refl
  where
    by : (b : Bool) → eqb (length side) 0 ≡ b → length side ≡ 0
    by true none = eqb-true (length side) 0 none
    by false none = absurd (let bad : starts_at_zero start side ≡ true = rw (none_before, none) refl in cc)

some-sides : (body : List Marked) → eqb (length body) 0 ≡ false → 0 < length (old_lines body) + length (new_lines body)
some-sides [] e = absurd cc
some-sides (m ∷ body) e = by m.mark
  where
    by : (k : Mark) → 0 < length (map (λ (x : Marked). x.line) (cond (is_on_side Forward k) (m ∷ filter (λ x. is_on_side Forward x.mark) body) (filter (λ x. is_on_side Forward x.mark) body))) + length (map (λ (x : Marked). x.line) (cond (is_on_side Reversed k) (m ∷ filter (λ x. is_on_side Reversed x.mark) body) (filter (λ x. is_on_side Reversed x.mark) body)))
    by its.Keep = omega arith
    by its.Drop = omega arith
    by its.Add = omega arith

-- ---- lines that fit
-- ---- whatever is spelled begins with the hunk

begins-with : (h : PlainHunk) (own rest : List (List ℕ)) (number next : ℕ) (hs : List PlainHunk) (behind : List (List ℕ)) → SpellsHunk 0 own h → after_backslash rest ≡ None → IsPiece number (own ++ rest) hs next behind → (others : List PlainHunk) × (hs ≡ h ∷ others)
begins-with h own rest number next hs behind s quiet piece = reads_first begins_hunk hunk_at SpellsIn grammar h own rest number (hs, ahead next behind) s quiet (reading_again number (own ++ rest) hs next behind piece)

pub spells-first : (h : PlainHunk) (rest : List ℕ) → first_broken h ≡ None → AllByRecursion HasNoInnerFeed h.body → after_backslash (lines rest) ≡ None → SpellsFirst (in_order h) (canonical h) rest
spells-first h rest unbroken cleanly quiet =
    let k = kept h unbroken in
    let olds = old_lines h.body in
    let news = new_lines h.body in
    let fit : LinesFit olds = lines-fit olds (clean-on Forward h.body cleanly) k.old_ends in
    let fit2 : LinesFit news = lines-fit news (clean-on Reversed h.body cleanly) k.new_ends in
    let action = action_for (length olds) (length news) in
    let fair : AreFair 0 (command_of action (in_order h) olds news) = record { fits = record { old = fits-back h.old_start olds k.old_fits; new = fits-back h.new_start news k.new_fits }; order = omega arith } in
    let parts = text-lines h.old_start h.new_start olds news rest fit fit2 in
    let spelled : SpellsHunk 0 (hunk_lines h.old_start h.new_start olds news) (in_order h) = (
      action,
      olds,
      news,
      refl,
      command-spelled (in_order h) olds news (some-sides h.body k.some) (starts-back h.old_start olds k.old_begins) (starts-back h.new_start news k.new_begins),
      fair,
      body-spelled olds news fit fit2,
    ) in
    record {
      own = hunk_lines h.old_start h.new_start olds news;
      parts = parts;
      spelled = spelled;
      first = λ number next hs behind piece. begins-with (in_order h) (hunk_lines h.old_start h.new_start olds news) (lines rest) number next hs behind spelled quiet (subst (λ ls. IsPiece number ls hs next behind) parts piece);
    }
