-- The first misplaced backslash line of a body, line by line.
use Rattle.std.proofs.Common.{◌≡◌, ℕ, ◌+◌, ◌≤◌, ◌<◌, ◌^◌, Bool, true, false, not, eqb, ◌&&◌, List, [], ◌∷◌, length, slice_range, Option, None, Some, Ok, Err, refl, sym, ap, ◌∙◌, arith}
use Rattle.std.specs.List.{list_any}
use Rattle.std.proofs.lemmas.Bool.{or_parts}
use Rattle.line_list.specs.Lines.{IsLineAt}
use Rattle.hunk_core.specs.declared.BadKind.TheVariants as kinds
use Rattle.hunk_core.specs.declared.Mark.{Mark}
use Rattle.hunk_core.specs.LineTests.{is_backslash}
use Rattle.hunk_core.specs.Reading.{fault}
use Rattle.unified_form.specs.declared.body.Left.{Left}
use Rattle.split_recount.specs.declared.body.Body.{Body}
use Rattle.split_recount.specs.declared.body.Sides.{Sides}
use Rattle.split_recount.specs.Bodies.{mark_in, may_stand, misplaced, marked_lines}
use Rattle.split_recount.specs.Recounted.{sound_body, unless_misplaced}
use Rattle.split_recount.specs.Measured.{left_of, with_mark, body_at, GoesOn, IsMeasured}
use Rattle.split_recount.proofs.Measuring.{sides_of, sides-more}

-- the body was searched up to a place, and what is ahead gives the whole
pub record Searches (text : List ℕ) (total : Option ℕ) (at number : ℕ) (before : Option Mark) (left : Sides) : Type 0 where
  pub within : at ≤ length text
  pub small : number ≤ at + 2 ^ 32
  pub sides : sides_of (body_at text at) ≡ left_of left
  pub same : total ≡ misplaced before number (body_at text at)

pub not-there : (before : Option Mark) (number : ℕ) (body : List (List ℕ)) → body ≡ [] → misplaced before number body ≡ None
unfolding misplaced
not-there before number body e = rw e refl

here : (before : Option Mark) (number : ℕ) (line : List ℕ) (body : List (List ℕ)) → (is_backslash line && not (may_stand before (sides_of body))) ≡ true → misplaced before number (line ∷ body) ≡ Some number
unfolding misplaced
here before number line body e = rw e refl

further : (before : Option Mark) (number : ℕ) (line : List ℕ) (body : List (List ℕ)) → (is_backslash line && not (may_stand before (sides_of body))) ≡ false → misplaced before number (line ∷ body) ≡ misplaced (mark_in line) (number + 1) body
unfolding misplaced
further before number line body e = rw e refl

-- the line at a place is taken off what is left
pub record Takes (text : List ℕ) (at end : ℕ) (mark : Option Mark) (left fewer : Sides) : Type 0 where
  pub mark_is : mark ≡ mark_in (slice_range text at end)
  pub goes : GoesOn text at (Some end)
  pub less : (l : Left) → left_of left ≡ with_mark mark l → left_of fewer ≡ l

left-behind : (text : List ℕ) (total : Option ℕ) (at number : ℕ) (before : Option Mark) (left : Sides) (end : ℕ) (mark : Option Mark) (fewer : Sides) → Searches text total at number before left → Takes text at end mark left fewer → left_of fewer ≡ sides_of (body_at text end)
left-behind text total at number before left end mark fewer so takes =
    takes.less (sides_of (body_at text end)) (sym so.sides ∙ ap sides_of takes.goes.1 ∙ sides-more (slice_range text at end) (body_at text end) ∙ ap (λ m. with_mark m (sides_of (body_at text end))) (sym takes.mark_is))

pub found-here : (text : List ℕ) (total : Option ℕ) (at number : ℕ) (before : Option Mark) (left : Sides) (end : ℕ) (mark : Option Mark) (fewer : Sides) (wrong : Bool) → Searches text total at number before left → Takes text at end mark left fewer
    → wrong ≡ (is_backslash (slice_range text at end) && not (may_stand before (left_of fewer))) → wrong ≡ true → total ≡ Some number
found-here text total at number before left end mark fewer wrong so takes w is =
    let same : left_of fewer ≡ sides_of (body_at text end) = left-behind text total at number before left end mark fewer so takes in
    so.same ∙ ap (misplaced before number) takes.goes.1 ∙ here before number (slice_range text at end) (body_at text end) (ap (λ l. is_backslash (slice_range text at end) && not (may_stand before l)) (sym same) ∙ sym w ∙ is)

pub search-further : (text : List ℕ) (total : Option ℕ) (at number : ℕ) (before : Option Mark) (left : Sides) (end : ℕ) (mark : Option Mark) (fewer : Sides) (wrong : Bool) → Searches text total at number before left → Takes text at end mark left fewer
    → wrong ≡ (is_backslash (slice_range text at end) && not (may_stand before (left_of fewer))) → wrong ≡ false → Searches text total end (number + 1) mark fewer
search-further text total at number before left end mark fewer wrong so takes w is =
    let same : left_of fewer ≡ sides_of (body_at text end) = left-behind text total at number before left end mark fewer so takes in
    let place : IsLineAt text at end = takes.goes.0 in
    record {
      within = place.high;
      small = omega (arith, so.small, place.low);
      sides = sym same;
      same = so.same ∙ ap (misplaced before number) takes.goes.1
          ∙ further before number (slice_range text at end) (body_at text end) (ap (λ l. is_backslash (slice_range text at end) && not (may_stand before l)) (sym same) ∙ sym w ∙ is)
          ∙ ap (λ m. misplaced m (number + 1) (body_at text end)) (sym takes.mark_is);
    }

none-first : (a b : Bool) → a ≡ false → (a && b) ≡ false
none-first a b e = rw e refl

-- a body without backslash lines has none that is misplaced
pub none_misplaced : (before : Option Mark) (number : ℕ) (body : List (List ℕ)) → list_any is_backslash body ≡ false → misplaced before number body ≡ None
none_misplaced before number [] e = not-there before number [] refl
none_misplaced before number (line ∷ body) e =
    let both = or_parts (is_backslash line) (list_any is_backslash body) e in
    further before number line body (none-first (is_backslash line) _ both.0) ∙ none_misplaced (mark_in line) (number + 1) body both.1

-- ---- a whole body

pub sound_if : (number : ℕ) (body : List (List ℕ)) (found : Option ℕ) → 0 < length body → misplaced None (number + 1) body ≡ found → sound_body number body ≡ unless_misplaced (marked_lines body) found
sound_if number body found some e =
    let more : eqb (length body) 0 ≡ false = grind arith in
    rw (more, e) refl

not-false : (seen : Bool) → not seen ≡ true → seen ≡ false
not-false true e = absurd cc
not-false false e = refl

module _ {text : List ℕ} {at : ℕ} {b : Body} (number : ℕ) (m : IsMeasured text at b) where
  pub check-none : b.lines ≡ 0 → sound_body number (body_at text at) ≡ Err (fault number kinds.Count)
  check-none e =
      let no : length (body_at text at) ≡ 0 = m.lines ∙ e in
      rw no refl

  pub check-found : (found : Option ℕ) → (b.lines ≡ 0 → ⊥) → misplaced None (number + 1) (body_at text at) ≡ found → sound_body number (body_at text at) ≡ unless_misplaced (marked_lines (body_at text at)) found
  check-found found some is = sound_if number (body_at text at) found (omega (arith, m.lines, some)) is

  pub check-plain : (b.lines ≡ 0 → ⊥) → not b.has_backslash ≡ true → sound_body number (body_at text at) ≡ Ok (marked_lines (body_at text at))
  check-plain some plain = check-found None some (none_misplaced None (number + 1) (body_at text at) (m.backslash ∙ not-false b.has_backslash plain))
