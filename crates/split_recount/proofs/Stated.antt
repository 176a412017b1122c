-- What a range line says that is believed, case by case.
use Rattle.std.proofs.Common.{◌≡◌, ℕ, false, true, ◌||◌, List, [], ◌∷◌, None, Some, Result, Ok, Err, refl, sym}
use Rattle.hunk_core.specs.declared.BadKind.{BadKind}
use Rattle.hunk_core.specs.declared.BadKind.TheVariants as kinds
use Rattle.hunk_core.specs.Rules.{is_too_large}
use Rattle.hunk_core.specs.LineTests.{after}
use Rattle.unified_form.specs.Ranges.{range_at, is_bad_range}
use Rattle.split_recount.specs.declared.ranges.Range.{Range}
use Rattle.split_recount.specs.RangeLines.{first_line, range_parts, stated}
use Rattle.split_recount.specs.Walking.{both_ranges}

-- a start, and what stands behind the ranges
abbrev pub said : ℕ → List ℕ → Result (ℕ × List ℕ) BadKind
said first rest = Ok (first, rest)

module _ (line : List ℕ) (old new : Range) (rest : List ℕ) (is : range_parts line ≡ Some (both_ranges old new, rest)) where
  pub stated-fits : false ≡ is_bad_range old.start old.count → false ≡ is_bad_range new.start new.count → false ≡ (is_too_large old.start old.count || is_too_large new.start new.count) → stated line ≡ Ok (first_line old.start old.count, rest)
  stated-fits e f g = rw (is, sym e, sym f, sym g) refl

  pub stated-large : false ≡ is_bad_range old.start old.count → false ≡ is_bad_range new.start new.count → true ≡ (is_too_large old.start old.count || is_too_large new.start new.count) → stated line ≡ Err kinds.NumberTooLarge
  stated-large e f g = rw (is, sym e, sym f, sym g) refl

-- ---- the parts of a range line, read one behind the other

module _ (line : List ℕ) {a b : List ℕ} {old : ℕ × ℕ} (first : after (64 ∷ 64 ∷ 32 ∷ 45 ∷ []) line ≡ Some a) (left : range_at a ≡ Some (old, b)) where
  pub parts-plus : after (32 ∷ 43 ∷ []) b ≡ None → range_parts line ≡ None
  unfolding range_parts
  parts-plus second = rw (first, left, second) refl

  module _ {d : List ℕ} (second : after (32 ∷ 43 ∷ []) b ≡ Some d) where
    pub parts-new : range_at d ≡ None → range_parts line ≡ None
    unfolding range_parts
    parts-new right = rw (first, left, second, right) refl

    pub parts-end : {e : List ℕ} {new : ℕ × ℕ} → range_at d ≡ Some (new, e) → after (32 ∷ 64 ∷ 64 ∷ []) e ≡ None → range_parts line ≡ None
    unfolding range_parts
    parts-end right third = rw (first, left, second, right, third) refl

    pub parts-all : {e f : List ℕ} {new : ℕ × ℕ} → range_at d ≡ Some (new, e) → after (32 ∷ 64 ∷ 64 ∷ []) e ≡ Some f
        → range_parts line ≡ Some (record { old_start = old.0; old_count = old.1; new_start = new.0; new_count = new.1 }, f)
    unfolding range_parts
    parts-all right third = rw (first, left, second, right, third) refl
