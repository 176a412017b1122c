-- The counts of a body are the numbers of lines of its sides.
use Rattle.std.proofs.Common.{◌≡◌, ℕ, cond, List, [], ◌∷◌, length, map, refl, arith}
use Rattle.std.specs.Prelude.{filter}
use Rattle.hunk_core.specs.declared.Mark.{Mark}
use Rattle.hunk_core.specs.declared.Mark.TheVariants.{Keep, Drop, Add}
use Rattle.hunk_core.specs.declared.Side.{Side}
use Rattle.hunk_core.specs.declared.Side.TheVariants.{Forward, Reversed}
use Rattle.hunk_core.specs.Sides.{is_on_side}
use Rattle.hunk_core.specs.PlainHunk.{Marked, lines_on, old_lines, new_lines}
use Rattle.unified_form.specs.declared.body.Left.{Left}
use Rattle.unified_form.specs.Grammar.{one_more, counts_of}

abbrev lines_of : List Marked → List (List ℕ)
lines_of ms = map (λ m. m.line) ms

old-step : (mark : Mark) (rest : Left) (m : Marked) (ms : List Marked) → rest.old ≡ length (lines_of ms) → (one_more mark rest).old ≡ length (lines_of (cond (is_on_side Forward mark) (m ∷ ms) ms))
old-step Keep rest m ms e = omega (arith, e)
old-step Drop rest m ms e = omega (arith, e)
old-step Add rest m ms e = e

new-step : (mark : Mark) (rest : Left) (m : Marked) (ms : List Marked) → rest.new ≡ length (lines_of ms) → (one_more mark rest).new ≡ length (lines_of (cond (is_on_side Reversed mark) (m ∷ ms) ms))
new-step Keep rest m ms e = omega (arith, e)
new-step Drop rest m ms e = e
new-step Add rest m ms e = omega (arith, e)

pub counts-old : (body : List Marked) → (counts_of body).old ≡ length (old_lines body)
counts-old [] = refl
counts-old (m ∷ body) = old-step m.mark (counts_of body) m (filter (λ x. is_on_side Forward x.mark) body) (counts-old body)

pub counts-new : (body : List Marked) → (counts_of body).new ≡ length (new_lines body)
counts-new [] = refl
counts-new (m ∷ body) = new-step m.mark (counts_of body) m (filter (λ x. is_on_side Reversed x.mark) body) (counts-new body)

-- how much is left on a side
abbrev pub left_on : Side → Left → ℕ
left_on Forward left = left.old
left_on Reversed left = left.new

pub counts-on : (side : Side) (body : List Marked) → left_on side (counts_of body) ≡ length (lines_on side body)
counts-on Forward body = counts-old body
counts-on Reversed body = counts-new body
