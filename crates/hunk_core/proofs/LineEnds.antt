-- Lines that fit: each ends with its line feed, or is the last.
use Rattle.std.proofs.Common.{◌≡◌, ℕ, true, List, [], ◌∷◌, arith, false, refl, ◌≢◌, ◌-◌, length, take, suc, subst, Bool, cond, map, ◌⊎◌, not, inl, inr, ◌<◌, eqb}
use Rattle.line_list.specs.Lines.{IsLine}
use Rattle.hunk_core.specs.LineTests.{ends_line, after, is_backslash}
use Rattle.line_list.proofs.WholeLines.{NoFeed, LinesFit, line-prefix}
use Rattle.std.specs.List.{AllByRecursion}
use Rattle.std.proofs.lemmas.Bool.{eqb-true, eqb-false, or_parts}
use Rattle.std.specs.Prelude.{filter, codes}
use Rattle.hunk_core.specs.declared.Side.{Side}
use Rattle.hunk_core.specs.Sides.{is_on_side}
use Rattle.hunk_core.specs.PlainHunk.{Marked, lines_on}
use Rattle.hunk_core.specs.Rules.{HasNoInnerFeed, lacks_inner_end}
use Rattle.line_list.proofs.Choices.{chosen}
use Rattle.hunk_core.specs.Writing.{no_newline}

pub line-ends : (line : List ℕ) → IsLine line → ends_line line ≡ true
line-ends [] h = absurd h
line-ends (b ∷ []) h = grind arith
line-ends (b ∷ c ∷ bytes) h = line-ends (c ∷ bytes) h.1

pub no-end : (line : List ℕ) → NoFeed line → ends_line line ≡ false
no-end [] h = refl
no-end (b ∷ []) h = let ne = h.0 in grind arith
no-end (b ∷ c ∷ bytes) h = no-end (c ∷ bytes) h.1

abbrev pub IsClean : List ℕ → Type 0
IsClean line = AllByRecursion (λ b. b ≢ 10) (take (length line - 1) line)

pub whole-line : (line : List ℕ) → IsClean line → ends_line line ≡ true → IsLine line
whole-line [] h e = absurd cc
whole-line (b ∷ []) h e = eqb-true b 10 e
whole-line (b ∷ c ∷ bs) h e =
    let n : length (b ∷ c ∷ bs) - 1 ≡ suc (length (c ∷ bs) - 1) = omega arith in
    let h2 : NoFeed (take (suc (length (c ∷ bs) - 1)) (b ∷ c ∷ bs)) = subst (λ k. NoFeed (take k (b ∷ c ∷ bs))) n h in
    (h2.0, whole-line (c ∷ bs) h2.1 e)

pub open-line : (line : List ℕ) → IsClean line → ends_line line ≡ false → NoFeed line
open-line [] h e = tt
open-line (b ∷ []) h e = (eqb-false b 10 e, tt)
open-line (b ∷ c ∷ bs) h e =
    let n : length (b ∷ c ∷ bs) - 1 ≡ suc (length (c ∷ bs) - 1) = omega arith in
    let h2 : NoFeed (take (suc (length (c ∷ bs) - 1)) (b ∷ c ∷ bs)) = subst (λ k. NoFeed (take k (b ∷ c ∷ bs))) n h in
    (h2.0, open-line (c ∷ bs) h2.1 e)

pub clean-on : (side : Side) (body : List Marked) → AllByRecursion HasNoInnerFeed body → AllByRecursion IsClean (lines_on side body)
clean-on side [] h = tt
clean-on side (m ∷ body) h = by (is_on_side side m.mark) (clean-on side body h.1)
  where
    by : (b : Bool) → AllByRecursion IsClean (lines_on side body) → AllByRecursion IsClean (map (λ (x : Marked). x.line) (cond b (m ∷ filter (λ x. is_on_side side x.mark) body) (filter (λ x. is_on_side side x.mark) body)))
    by true more = (h.0, more)
    by false more = more

abbrev pub no_lines : List (List ℕ)
no_lines = []

pub lines-fit : (ls : List (List ℕ)) → AllByRecursion IsClean ls → lacks_inner_end ls ≡ false → LinesFit ls
lines-fit [] clean ends = tt
lines-fit (l ∷ []) clean ends = (by (ends_line l) refl, tt)
  where
    by : (b : Bool) → ends_line l ≡ b → IsLine l ⊎ (NoFeed l × (no_lines ≡ no_lines))
    by true is = inl (whole-line l clean.0 is)
    by false is = inr (open-line l clean.0 is, refl)
lines-fit (l ∷ k ∷ ls) clean ends =
    let e = or_parts (not (ends_line l)) (lacks_inner_end (k ∷ ls)) ends in
    (inl (whole-line l clean.0 (back (ends_line l) e.0)), lines-fit (k ∷ ls) clean.1 e.1)
  where
    back : (b : Bool) → not b ≡ false → b ≡ true
    back true h = refl
    back false h = absurd cc

pub lacks-step : (line : List ℕ) (lines : List (List ℕ)) → (0 < length lines → ends_line line ≡ true) → lacks_inner_end lines ≡ false → lacks_inner_end (line ∷ lines) ≡ false
lacks-step line [] ends none = refl
lacks-step line (x ∷ xs) ends none = let e : ends_line line ≡ true = ends (omega arith) in rw (e, none) refl

abbrev pub is_clean : List ℕ → Bool
is_clean [] = true
is_clean (b ∷ bs) = cond (eqb b 10) false (is_clean bs)

pub clean : (bs : List ℕ) → is_clean bs ≡ true → NoFeed bs
clean [] e = tt
clean (b ∷ bs) e =
    elim (chosen (eqb b 10) false (is_clean bs) true e) [
      | inl feed ↦ absurd cc
      | inr other ↦ (eqb-false b 10 other.0, clean bs other.1)
    ]

pub backslash : is_backslash no_newline ≡ true
unfolding after
backslash = refl

pub no-newline-line : IsLine no_newline
no-newline-line = line-prefix (92 ∷ 32 ∷ codes "No newline at end of file") (10 ∷ []) (clean (92 ∷ 32 ∷ codes "No newline at end of file") refl) refl
