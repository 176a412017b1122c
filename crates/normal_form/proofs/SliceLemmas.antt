-- A line as a part of a text, and what stands behind its mark.
use Rattle.std.proofs.Common.{◌≡◌, ℕ, ◌+◌, ◌-◌, ◌≤◌, true, List, ◌∷◌, ◌++◌, length, get_or, slice_range, Some, ap, sym, subst, ◌∙◌, arith}
use Rattle.std.specs.Prelude.{is_some}
use Rattle.hunk_core.specs.declared.Side.{Side}
use Rattle.hunk_core.specs.declared.Side.TheVariants.{Forward, Reversed}
use Rattle.hunk_core.specs.LineTests.{after}
use Rattle.hunk_core.proofs.TextLemmas.{after-takes, has_some, slice-first, slice-length}
use Rattle.normal_form.specs.Stretches.{marks}

long-prefix : (side : Side) (line rest : List ℕ) → line ≡ marks side ++ rest → 2 ≤ length line
long-prefix Forward line rest e = omega (arith, ap length e)
long-prefix Reversed line rest e = omega (arith, ap length e)

-- a marked line has two bytes or more
pub marked-long : (side : Side) (line : List ℕ) → is_some (after (marks side) line) ≡ true → 2 ≤ length line
marked-long side line e = let s = has_some (after (marks side) line) e in long-prefix side line s.0 (after-takes (marks side) line s.0 s.1)

behind-two : (side : Side) (b c : ℕ) (rest more : List ℕ) → b ∷ c ∷ rest ≡ marks side ++ more → rest ≡ more
behind-two Forward b c rest more e = cc
behind-two Reversed b c rest more e = cc

two-off : (side : Side) (b c : ℕ) (rest : List ℕ) → is_some (after (marks side) (b ∷ c ∷ rest)) ≡ true → after (marks side) (b ∷ c ∷ rest) ≡ Some rest
two-off side b c rest e =
    let s = has_some (after (marks side) (b ∷ c ∷ rest)) e in
    s.1 ∙ ap (λ (x : List ℕ). Some x) (sym (behind-two side b c rest s.0 (after-takes (marks side) (b ∷ c ∷ rest) s.0 s.1)))

pub slice-behind : (text : List ℕ) (at end : ℕ) (side : Side) → end ≤ length text → is_some (after (marks side) (slice_range text at end)) ≡ true → after (marks side) (slice_range text at end) ≡ Some (slice_range text (at + 2) end)
slice-behind text at end side le e =
    let long : 2 ≤ end - at = omega (arith, marked-long side (slice_range text at end) e, slice-length text at end le) in
    let next : at + 1 + 1 ≡ at + 2 = omega arith in
    let two : slice_range text at end ≡ get_or text at 0 ∷ get_or text (at + 1) 0 ∷ slice_range text (at + 2) end =
    slice-first text at end (omega (arith, long)) le
    ∙ ap (λ (x : List ℕ). get_or text at 0 ∷ x) (slice-first text (at + 1) end (omega (arith, long)) le ∙ ap (λ k. get_or text (at + 1) 0 ∷ slice_range text k end) next) in
    rw two (two-off side (get_or text at 0) (get_or text (at + 1) 0) (slice_range text (at + 2) end) (subst (λ (x : List ℕ). is_some (after (marks side) x) ≡ true) two e))
