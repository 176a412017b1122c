-- What was chosen is the choice of the definition, within a list of targets that was lent.
use Rattle.std.proofs.Common.{◌≡◌, ◌∙◌, ℕ, ◌<◌, List, length, Bool, true, false, Option, Some, None, Result, Ok, Err, refl, sym, ap, subst}
use Rattle.std.specs.Prelude.{IfSome, OnErr}
use Rattle.outside.specs.Files.{Files}
use Rattle.outside.specs.TreeView.{TreeView, Rises}
use Rattle.outside.specs.Calls.{IsUntouched}
use Rattle.outside.proofs.Views.{rises_then}
use Rattle.hunk_core.specs.declared.Side.{Side}
use Rattle.read_header_record.specs.declared.Action.{Action}
use Rattle.read_file_patch.specs.declared.derived.Target.{Target}
use Rattle.read_file_patch.specs.Actions.{is_moved}
use Rattle.name_choice.specs.declared.Choice.{Choice}
use Rattle.name_choice.specs.declared.Choice.TheVariants.{Create, Existing, Nothing}
use Rattle.name_choice.specs.Choice.{choice, choice_among, chosen_or, created, done_place, existing, existing_at, existing_or, first_place, moved_choice, names_of, side_of, source_place, to_create, IsWithin}

-- a fault behind a call that left the tree untouched
pub late_cause : {R E : Type 0} (u v w : TreeView) (r : Result R E) → IsUntouched u v → Rises v w → OnErr r (Rises u w)
late_cause u v w (Ok x) untouched cause = tt
late_cause u v w (Err e) untouched cause = rises_then u v w untouched.passes cause

pub later_cause : {R E : Type 0} (u v w : TreeView) (r : Result R E) → IsUntouched u v → OnErr r (Rises v w) → OnErr r (Rises u w)
later_cause u v w (Ok x) untouched cause = tt
later_cause u v w (Err e) untouched cause = rises_then u v w untouched.passes cause

module _ {given targets : List Target} (same : given ≡ targets) where
  -- ---- numbers within the list

  pub some_within : (o : Option ℕ) (k : ℕ) → o ≡ Some k → IfSome o (λ n. n < length given) → k < length targets
  some_within o k is within = subst (λ t. k < length t) same (subst (λ p. IfSome p (λ n. n < length given)) is within)

  pub created_within : (o : Option ℕ) (c : Choice) → c ≡ created o → IfSome o (λ n. n < length given) → IsWithin (length targets) c
  created_within o c is within = subst (λ t. IsWithin (length t) c) same (subst (IsWithin (length given)) (sym is) (go o within))
    where
      go : (p : Option ℕ) → IfSome p (λ n. n < length given) → IsWithin (length given) (created p)
      go None within = tt
      go (Some k) within = within

  -- ---- among several names

  module _ (operand creates posix : Bool) (files : Files) (o : Option ℕ) (placed : o ≡ existing posix files (names_of given)) where
    of_all : o ≡ existing posix files (names_of targets)
    of_all = placed ∙ ap (λ (t : List Target). existing posix files (names_of t)) same

    pub chosen_there : (k : ℕ) → o ≡ Some k → Existing k ≡ choice_among (names_of targets) operand creates posix files
    unfolding choice_among
    chosen_there k is = ap (existing_or (to_create (names_of targets) operand creates posix files)) (sym is ∙ of_all)

    chosen_else : (c : Choice) → o ≡ None → c ≡ to_create (names_of targets) operand creates posix files → c ≡ choice_among (names_of targets) operand creates posix files
    unfolding choice_among
    chosen_else c is made = made ∙ ap (existing_or (to_create (names_of targets) operand creates posix files)) (sym is ∙ of_all)

    pub chosen_operand : (c : Choice) → o ≡ None → operand ≡ true → c ≡ created (first_place (names_of targets)) → c ≡ choice_among (names_of targets) operand creates posix files
    chosen_operand c is operand-is made = chosen_else c is (rw operand-is made)

  -- ---- of a rename or a copy, or not

  pub of_moved : (action : Action) (side : Side) (creates operand reverse posix : Bool) (files : Files) → side ≡ side_of reverse → is_moved action ≡ true
      → moved_choice files (names_of given) action side ≡ choice action creates (names_of targets) operand reverse posix files
  unfolding choice
  of_moved action side creates operand reverse posix files side-is moved = rw (same, side-is, moved) refl

pub among_choice : (action : Action) (names : List (List ℕ)) (creates operand reverse posix : Bool) (files : Files) → is_moved action ≡ false
    → choice_among names operand creates posix files ≡ choice action creates names operand reverse posix files
unfolding choice
among_choice action names creates operand reverse posix files moved = rw moved refl

-- ---- the one name of a rename or a copy, or else the other one

pub source-stands : (files : Files) (names : List (List ℕ)) (action : Action) (side : Side) (c : Choice) (place : Option ℕ) (k : ℕ) → place ≡ source_place action side
    → c ≡ existing_at files names place → c ≡ Existing k → c ≡ moved_choice files names action side
source-stands files names action side c place k at is some =
    let here : existing_at files names (source_place action side) ≡ Existing k = ap (existing_at files names) (sym at) ∙ sym is ∙ some in
    some ∙ sym (ap (chosen_or (existing_at files names (done_place action side))) here)

pub source-made : (files : Files) (names : List (List ℕ)) (action : Action) (side : Side) (c : Choice) (place : Option ℕ) (k : ℕ) → place ≡ source_place action side
    → c ≡ existing_at files names place → c ≡ Create k → c ≡ moved_choice files names action side
source-made files names action side c place k at is some =
    let here : existing_at files names (source_place action side) ≡ Create k = ap (existing_at files names) (sym at) ∙ sym is ∙ some in
    some ∙ sym (ap (chosen_or (existing_at files names (done_place action side))) here)

pub other-stands : (files : Files) (names : List (List ℕ)) (action : Action) (side : Side) (c d : Choice) (place other : Option ℕ) → place ≡ source_place action side → other ≡ done_place action side
    → c ≡ existing_at files names place → c ≡ Nothing → d ≡ existing_at files names other → d ≡ moved_choice files names action side
other-stands files names action side c d place other at other-at is none then_is =
    let here : existing_at files names (source_place action side) ≡ Nothing = ap (existing_at files names) (sym at) ∙ sym is ∙ none in
    then_is ∙ ap (existing_at files names) other-at ∙ sym (ap (chosen_or (existing_at files names (done_place action side))) here)
