-- The tests of the grammar, in words.
use Rattle.std.proofs.Common.{◌≡◌, ◌↔◌, ℕ, Bool, true, false, List, [], ◌∷◌, length, Option, None, Some, refl, sym, ap, ◌∙◌, arith}
use Rattle.std.specs.Prelude.{is_some}
use Rattle.num_text.specs.Numbers.{is_digit}
use Rattle.hunk_core.specs.declared.Mark.{Mark}
use Rattle.hunk_core.specs.declared.Side.{Side}
use Rattle.hunk_core.specs.declared.Side.TheVariants.{Forward, Reversed}
use Rattle.hunk_core.specs.Sides.{is_on_side}
use Rattle.hunk_core.specs.PlainHunk.{Marked, lines_on}
use Rattle.hunk_core.specs.LineTests.{after}
use Rattle.hunk_core.proofs.TextLemmas.{after-takes, after-again}
use Rattle.hunk_core.specs.OptionSteps.{◌>>=◌}
use Rattle.unified_form.specs.Ranges.{size_at, is_opening}
use Rattle.unified_form.specs.Bodies.{is_last_line}
use Rattle.unified_form.specs.Grammar.{counts_of}
use Rattle.unified_form.proofs.Counts.{counts-on}
use Rattle.unified_form.proofs.Unbroken.{last-none}
use Rattle.unified_form.proofs.Again.{last-of}

digit_first : (bytes : List ℕ) → is_some (size_at bytes) ≡ true → (d : ℕ) × (rest : List ℕ) × (bytes ≡ d ∷ rest) × (is_digit d ≡ true)
digit_first [] e = absurd cc
digit_first (b ∷ rest) e = (b, rest, refl, by (is_digit b) refl e)
  where
    by : (v : Bool) → is_digit b ≡ v → is_some (size_at (b ∷ rest)) ≡ true → is_digit b ≡ true
    by true is e = is
    by false is e = absurd (let none : is_some (size_at (b ∷ rest)) ≡ false = rw is refl in cc)

some_first : (o : Option (List ℕ)) → is_some (o >>= size_at) ≡ true → (bytes : List ℕ) × (o ≡ Some bytes) × (is_some (size_at bytes) ≡ true)
some_first None e = absurd cc
some_first (Some bytes) e = (bytes, refl, e)

pub opening-words : (line : List ℕ) → is_opening line ≡ true ↔ ((d : ℕ) × (rest : List ℕ) × (line ≡ 64 ∷ 64 ∷ 32 ∷ 45 ∷ d ∷ rest) × (is_digit d ≡ true))
unfolding is_opening
opening-words line = (
  λ e. (
      let s = some_first (after (64 ∷ 64 ∷ 32 ∷ 45 ∷ []) line) e in
      let d = digit_first s.0 s.2 in
      (d.0, d.1, after-takes (64 ∷ 64 ∷ 32 ∷ 45 ∷ []) line s.0 s.1 ∙ ap (λ (bs : List ℕ). 64 ∷ 64 ∷ 32 ∷ 45 ∷ bs) d.2, d.3)),
  λ h. rw (h.2, after-again (64 ∷ 64 ∷ 32 ∷ 45 ∷ []) (h.0 ∷ h.1), h.3) refl,
)

pub last-words : (mark : Mark) (body : List Marked) → is_last_line mark (counts_of body) ≡ true ↔ ((side : Side) → is_on_side side mark ≡ true → lines_on side body ≡ [])
last-words mark body = (
  λ e side on. none (lines_on side body) (let z : length (lines_on side body) ≡ 0 = sym (counts-on side body) ∙ last-none side mark (counts_of body) on e in z),
  λ h. last-of mark (counts_of body) (λ on. counts-on Forward body ∙ ap length (h Forward on)) (λ on. counts-on Reversed body ∙ ap length (h Reversed on)),
)
  where
    none : (ls : List (List ℕ)) → length ls ≡ 0 → ls ≡ []
    none [] e = refl
    none (l ∷ ls) e = absurd (omega (arith, e))
