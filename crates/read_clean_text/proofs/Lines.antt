-- Lines and their carriage returns.
use Rattle.std.proofs.Common.{◌≡◌, ℕ, ◌-◌, ◌≤◌, Bool, true, false, ◌&&◌, cond, List, [], ◌∷◌, ◌++◌, length, take, refl, ap, ◌∙◌, arith, length-append}
use Rattle.std.specs.Prelude.{nat_eq}
use Rattle.std.proofs.lemmas.List.{length-take-le}
use Rattle.read_clean_text.specs.Bare.{bare_line, has_return}

and-none : (b : Bool) → (b && false) ≡ true → ⊥
and-none true is = absurd cc
and-none false is = absurd cc

pub return-long : (line : List ℕ) → has_return line ≡ true → 2 ≤ length line
return-long [] is = absurd cc
return-long (b ∷ []) is = absurd (and-none (nat_eq 13 b) is)
return-long (b ∷ c ∷ line) is = omega arith

pub bare-with : (line : List ℕ) → has_return line ≡ true → bare_line line ≡ take (length line - 2) line ++ 10 ∷ []
bare-with line is = ap (λ b. cond b (take (length line - 2) line ++ 10 ∷ []) line) is

pub bare-without : (line : List ℕ) → has_return line ≡ false → bare_line line ≡ line
bare-without line is = ap (λ b. cond b (take (length line - 2) line ++ 10 ∷ []) line) is

pub length-with : (line : List ℕ) → has_return line ≡ true → length (bare_line line) ≡ length line - 1
length-with line is =
    let long = return-long line is in
    let front : length (take (length line - 2) line) ≡ length line - 2 = length-take-le (length line - 2) line (omega arith) in
    ap length (bare-with line is) ∙ omega (arith, length-append (take (length line - 2) line) (10 ∷ []), front, long)

pub bare-less : (line : List ℕ) → length (bare_line line) ≤ length line
bare-less line = by (has_return line) refl
  where
    by : (v : Bool) → has_return line ≡ v → length (bare_line line) ≤ length line
    by true is = omega (arith, length-with line is)
    by false is = omega (arith, ap length (bare-without line is))
