-- What a hunk adds less what it drops is how many more lines its new side has than its old one.
use Rattle.std.proofs.Common.{◌≡◌, ℕ, ◌+◌, List, [], ◌∷◌, length, cond, count_by, refl, ◌∙◌, arith}
use Rattle.std.proofs.lemmas.List.{length-map}
use Rattle.std.proofs.lemmas.List.Sums.{sum_by-cons, length-filter}
use Rattle.std.specs.Prelude.{filter}
use Rattle.hunk_core.specs.declared.Mark.{Mark}
use Rattle.hunk_core.specs.declared.Mark.TheVariants.{Keep, Drop, Add}
use Rattle.hunk_core.specs.declared.Side.{Side}
use Rattle.hunk_core.specs.declared.Side.TheVariants.{Forward, Reversed}
use Rattle.hunk_core.specs.declared.Hunk.{Hunk}
use Rattle.hunk_core.specs.Sides.{is_on_side, taken_count}
use Rattle.hunk_core.specs.PlainHunk.{Marked, hunk_of, lines_on, side_count}
use Rattle.hunk_core.specs.Turned.{is_add, is_drop, turned, other_side}
use Rattle.hunk_core.proofs.TurnedLemmas.{turned-count, turned-other-count}
use Rattle.hunk_place.specs.Verdicts.{adds, drops}

one : (m : Mark) → cond (is_add m) 1 0 + cond (is_on_side Forward m) 1 0 ≡ cond (is_drop m) 1 0 + cond (is_on_side Reversed m) 1 0
one Keep = refl
one Drop = refl
one Add = refl

counted : (body : List Marked) → count_by (λ m. is_add m.mark) body + side_count Forward body ≡ count_by (λ m. is_drop m.mark) body + side_count Reversed body
counted [] = refl
counted (m ∷ body) =
    omega (
      arith,
      one m.mark,
      counted body,
      sum_by-cons (λ (x : Marked). cond (is_add x.mark) 1 0) m body,
      sum_by-cons (λ (x : Marked). cond (is_drop x.mark) 1 0) m body,
      sum_by-cons (λ (x : Marked). cond (is_on_side Forward x.mark) 1 0) m body,
      sum_by-cons (λ (x : Marked). cond (is_on_side Reversed x.mark) 1 0) m body,
    )

lines-are : (side : Side) (body : List Marked) → length (lines_on side body) ≡ side_count side body
lines-are side body = length-map (filter (λ (m : Marked). is_on_side side m.mark) body) (λ (m : Marked). m.line) ∙ length-filter (λ (m : Marked). is_on_side side m.mark) body

pub balance : (text : List ℕ) (side : Side) (h : Hunk) → adds (turned side (hunk_of text h)) + taken_count side h.body.items ≡ drops (turned side (hunk_of text h)) + taken_count (other_side side) h.body.items
balance text side h =
    let body = (turned side (hunk_of text h)).body in
    omega (arith, counted body, lines-are Forward body, lines-are Reversed body, turned-count text side h, turned-other-count text side h)
