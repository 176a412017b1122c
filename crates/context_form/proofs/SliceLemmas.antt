-- A line as a part of a text, and what stands behind its mark and a blank.
use Rattle.std.proofs.Common.{◌≡◌, ℕ, ◌+◌, ◌≤◌, List, ◌∷◌, length, get_or, slice_range, ap, ◌∙◌, arith}
use Rattle.hunk_core.proofs.TextLemmas.{slice-first}

-- two bytes, and what stands behind them
pub with-two : (text : List ℕ) (n end b c : ℕ) → n + 2 ≤ end → end ≤ length text → get_or text n 0 ≡ b → get_or text (n + 1) 0 ≡ c → slice_range text n end ≡ b ∷ c ∷ slice_range text (n + 2) end
with-two text n end b c lt le is is2 =
    let next : n + 1 + 1 ≡ n + 2 = omega arith in
    slice-first text n end (omega (arith, lt)) le ∙ ap (λ x. x ∷ slice_range text (n + 1) end) is
    ∙ ap (λ (xs : List ℕ). b ∷ xs) (slice-first text (n + 1) end (omega (arith, lt)) le ∙ ap (λ x. x ∷ slice_range text (n + 1 + 1) end) is2 ∙ ap (λ k. c ∷ slice_range text k end) next)
