-- The canonical text of a hunk that breaks no rule is read as that hunk.
use Rattle.std.proofs.Common.{◌≡◌, ◌≢◌, ◌⊎◌, ℕ, suc, ◌+◌, ◌-◌, ◌<◌, Bool, true, false, cond, not, eqb, List, [], ◌∷◌, ◌++◌, length, take, map, None, refl, subst, ◌∙◌, arith, inl, inr}
use Rattle.std.specs.Prelude.{filter}
use Rattle.std.specs.List.{AllByRecursion}
use Rattle.std.proofs.lemmas.Bool.{eqb-true, eqb-false, ltb-false, or_parts}
use Rattle.line_list.specs.Lines.{lines, IsLine}
use Rattle.hunk_core.specs.declared.Mark.{Mark}
use Rattle.hunk_core.specs.declared.Mark.TheVariants.{Keep, Drop, Add}
use Rattle.hunk_core.specs.declared.Side.TheVariants.{Forward, Reversed}
use Rattle.hunk_core.specs.Sides.{is_on_side}
use Rattle.hunk_core.specs.PlainHunk.{Marked, PlainHunk, old_lines, new_lines}
use Rattle.hunk_core.specs.LineTests.{ends_line, after_backslash}
use Rattle.hunk_core.specs.Rules.{starts_at_zero, runs_over, lacks_inner_end, first_broken, HasNoInnerFeed}
use Rattle.hunk_core.specs.Reading.{ahead}
use Rattle.hunk_core.proofs.Grammars.{reads_first}
use Rattle.hunk_core.proofs.RuleLemmas.{Kept, kept}
use Rattle.unified_form.specs.declared.body.Left.{Left}
use Rattle.unified_form.specs.Bodies.{is_last_line}
use Rattle.unified_form.specs.Hunks.{begins_hunk, hunk_at}
use Rattle.unified_form.specs.Grammar.{counts_of, ranges_of, AreFair, SpellsHunk, IsPiece}
use Rattle.unified_form.specs.Canonical.{canonical, SpellsFirst}
use Rattle.unified_form.proofs.Counts.{counts-old, counts-new}
use Rattle.unified_form.proofs.Bodies.{one_line}
use Rattle.unified_form.proofs.Pieces.{SpellsIn, grammar, reading_again}
use Rattle.unified_form.proofs.Canonical.{hunk_lines, LinesFit, IsHunk, hunk-spelled, canonical-lines}

-- ---- no rule is broken
begins-back : (start count : ℕ) (side : List (List ℕ)) → count ≡ length side → starts_at_zero start side ≡ false → start ≡ 0 → count ≡ 0
begins-back start count side same e none_before = by (eqb (length side) 0) refl
  where
    by : (b : Bool) → eqb (length side) 0 ≡ b → count ≡ 0
    by true none = omega (arith, same, eqb-true (length side) 0 none)
    by false none = absurd (let bad : starts_at_zero start side ≡ true = rw (none_before, none) refl in cc)

fits-back : (start count : ℕ) (side : List (List ℕ)) → count ≡ length side → runs_over start side ≡ false → start + count < 4294967296
fits-back start count side same e = omega (arith, same, ltb-false 4294967295 (start + length side) e)

some-counts : (body : List Marked) → eqb (length body) 0 ≡ false → 0 < (counts_of body).old + (counts_of body).new
some-counts [] e = absurd cc
some-counts (m ∷ body) e = one_line m.mark (counts_of body)

fair : (h : PlainHunk) → Kept h → AreFair 0 (ranges_of h)
fair h k = record {
  old_begins = begins-back h.old_start (counts_of h.body).old (old_lines h.body) (counts-old h.body) k.old_begins;
  new_begins = begins-back h.new_start (counts_of h.body).new (new_lines h.body) (counts-new h.body) k.new_begins;
  fits = record {
    old = fits-back h.old_start (counts_of h.body).old (old_lines h.body) (counts-old h.body) k.old_fits;
    new = fits-back h.new_start (counts_of h.body).new (new_lines h.body) (counts-new h.body) k.new_fits;
  };
  counts = some-counts h.body k.some;
  order = omega arith;
}

-- ---- each line has its line feed, or is the last of its sides

whole-line : (line : List ℕ) → AllByRecursion (λ b. b ≢ 10) (take (length line - 1) line) → ends_line line ≡ true → IsLine line
whole-line [] h e = absurd cc
whole-line (b ∷ []) h e = eqb-true b 10 e
whole-line (b ∷ c ∷ bs) h e =
    let n : length (b ∷ c ∷ bs) - 1 ≡ suc (length (c ∷ bs) - 1) = omega arith in
    let h2 : AllByRecursion (λ b. b ≢ 10) (take (suc (length (c ∷ bs) - 1)) (b ∷ c ∷ bs)) = subst (λ k. AllByRecursion (λ b. b ≢ 10) (take k (b ∷ c ∷ bs))) n h in
    (h2.0, whole-line (c ∷ bs) h2.1 e)

open-line : (line : List ℕ) → AllByRecursion (λ b. b ≢ 10) (take (length line - 1) line) → ends_line line ≡ false → AllByRecursion (λ b. b ≢ 10) line
open-line [] h e = tt
open-line (b ∷ []) h e = (eqb-false b 10 e, tt)
open-line (b ∷ c ∷ bs) h e =
    let n : length (b ∷ c ∷ bs) - 1 ≡ suc (length (c ∷ bs) - 1) = omega arith in
    let h2 : AllByRecursion (λ b. b ≢ 10) (take (suc (length (c ∷ bs) - 1)) (b ∷ c ∷ bs)) = subst (λ k. AllByRecursion (λ b. b ≢ 10) (take k (b ∷ c ∷ bs))) n h in
    (h2.0, open-line (c ∷ bs) h2.1 e)

lacks-rest : (line : List ℕ) (ls : List (List ℕ)) → lacks_inner_end (line ∷ ls) ≡ false → lacks_inner_end ls ≡ false
lacks-rest line [] e = refl
lacks-rest line (x ∷ xs) e = (or_parts (not (ends_line line)) (lacks_inner_end (x ∷ xs)) e).1

lacks-last : (line : List ℕ) (ls : List (List ℕ)) → lacks_inner_end (line ∷ ls) ≡ false → ends_line line ≡ false → length ls ≡ 0
lacks-last line [] e bare = refl
lacks-last line (x ∷ xs) e bare = absurd (let bad : lacks_inner_end (line ∷ x ∷ xs) ≡ true = rw bare refl in cc)

behind : (b : Bool) (m : Marked) (ms : List Marked) → lacks_inner_end (map (λ x. x.line) (cond b (m ∷ ms) ms)) ≡ false → lacks_inner_end (map (λ x. x.line) ms) ≡ false
behind true m ms e = lacks-rest m.line (map (λ x. x.line) ms) e
behind false m ms e = e

last-on : (b : Bool) (m : Marked) (ms : List Marked) → lacks_inner_end (map (λ x. x.line) (cond b (m ∷ ms) ms)) ≡ false → ends_line m.line ≡ false → b ≡ true → length (map (λ x. x.line) ms) ≡ 0
last-on true m ms e bare on = lacks-last m.line (map (λ x. x.line) ms) e bare
last-on false m ms e bare on = absurd cc

pub last-of : (mark : Mark) (left : Left) → (is_on_side Forward mark ≡ true → left.old ≡ 0) → (is_on_side Reversed mark ≡ true → left.new ≡ 0) → is_last_line mark left ≡ true
last-of Keep left o n = let a : left.old ≡ 0 = o refl in let b : left.new ≡ 0 = n refl in rw (a, b) refl
last-of Drop left o n = let a : left.old ≡ 0 = o refl in rw a refl
last-of Add left o n = let b : left.new ≡ 0 = n refl in rw b refl

lines-fit : (body : List Marked) → AllByRecursion HasNoInnerFeed body → lacks_inner_end (old_lines body) ≡ false → lacks_inner_end (new_lines body) ≡ false → LinesFit body
lines-fit [] clean old new = tt
lines-fit (m ∷ body) clean old new =
    let olds = filter (λ x. is_on_side Forward x.mark) body in
    let news = filter (λ x. is_on_side Reversed x.mark) body in
    (by (ends_line m.line) refl, lines-fit body clean.1 (behind (is_on_side Forward m.mark) m olds old) (behind (is_on_side Reversed m.mark) m news new))
  where
    by : (b : Bool) → ends_line m.line ≡ b → IsLine m.line ⊎ (AllByRecursion (λ b. b ≢ 10) m.line × (is_last_line m.mark (counts_of body) ≡ true))
    by true e = inl (whole-line m.line clean.0 e)
    by false e = inr (
      open-line m.line clean.0 e,
      last-of m.mark (counts_of body)
          (λ on. counts-old body ∙ last-on (is_on_side Forward m.mark) m (filter (λ x. is_on_side Forward x.mark) body) old e on)
          (λ on. counts-new body ∙ last-on (is_on_side Reversed m.mark) m (filter (λ x. is_on_side Reversed x.mark) body) new e on),
    )

pub is-hunk : (h : PlainHunk) → first_broken h ≡ None → AllByRecursion HasNoInnerFeed h.body → IsHunk 0 h
is-hunk h e clean = let k = kept h e in record { ranges = fair h k; body = lines-fit h.body clean k.old_ends k.new_ends }

-- ---- whatever is spelled begins with the hunk

pub begins-with : (h : PlainHunk) (own rest : List (List ℕ)) (number next : ℕ) (hs : List PlainHunk) (behind : List (List ℕ)) → SpellsHunk 0 own h → after_backslash rest ≡ None → IsPiece number (own ++ rest) hs next behind → (others : List PlainHunk) × (hs ≡ h ∷ others)
begins-with h own rest number next hs behind s quiet piece = reads_first begins_hunk hunk_at SpellsIn grammar h own rest number (hs, ahead next behind) s quiet (reading_again number (own ++ rest) hs next behind piece)

pub spells-first : (h : PlainHunk) (rest : List ℕ) → first_broken h ≡ None → AllByRecursion HasNoInnerFeed h.body → after_backslash (lines rest) ≡ None → SpellsFirst h (canonical h) rest
spells-first h rest unbroken clean quiet =
    let is = is-hunk h unbroken clean in
    let parts = canonical-lines 0 h rest is in
    let spelled = hunk-spelled 0 h is in
    record {
      own = hunk_lines h;
      parts = parts;
      spelled = spelled;
      first = λ number next hs behind piece. begins-with h (hunk_lines h) (lines rest) number next hs behind spelled quiet (subst (λ ls. IsPiece number ls hs next behind) parts piece);
    }
