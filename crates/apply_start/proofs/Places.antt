-- A file patch whose hunks are tried was given a place among its targets.
use Rattle.std.proofs.Common.{◌≡◌, ℕ, ◌<◌, ◌∷◌, [], List, length, Bool, true, false, Option, None, Some, suc, refl, sym, ap, subst, arith, if◌then◌else◌, not, ◌||◌}
use Rattle.std.specs.Prelude.{slice_get}
use Rattle.std.specs.List.{position}
use Rattle.std.specs.Option.{option_map_or}
use Rattle.std.proofs.lemmas.Option.{slice_get_within}
use Rattle.std.proofs.lemmas.List.Quantifiers.{position-Some}
use Rattle.outside.specs.Files.{Files}
use Rattle.hunk_core.specs.declared.Side.{Side}
use Rattle.line_store.specs.declared.fault.OpenFault.{OpenFault}
use Rattle.read_header_record.specs.declared.Action.{Action}
use Rattle.read_file_patch.specs.declared.derived.Target.{Target}
use Rattle.say_text.specs.declared.standing.Standing.{Standing}
use Rattle.name_choice.specs.declared.Choice.{Choice}
use Rattle.name_choice.specs.declared.Choice.TheVariants.{Existing, Create, Nothing}
use Rattle.name_choice.specs.Better.{best_among}
use Rattle.name_choice.specs.Choice.{is_there, needs_fewest, first_place, existing_or, created, existing, to_create, choice_among, existing_if, existing_at, chosen_or, done_place, moved_choice, source_place, choice, side_of, names_of, IsWithin}
use Rattle.read_file_patch.specs.Actions.{is_moved}
use Rattle.patch_set.specs.declared.set.Row.{Row}
use Rattle.apply_task.specs.Kinds.{is_meant}
use Rattle.apply_task.specs.Contexts.{PlainContext, bytes_of}
use Rattle.apply_start.specs.Start.{Start, skips, refuses, tries, said_first, refused_or, on_direction, on_prereq, on_taking, on_misfit, on_fitting, on_file, on_target, on_choice, choice_of, skipped_said, own_start, start, is_reversed, lines_in, first_hunk, turns_round, lacks_word, unfit, is_forced}

-- ---- choices

-- the place is that of one of so many
abbrev IsOne : ℕ → Option ℕ → Type 0
IsOne n None = Unit {0}
IsOne n (Some k) = k < n

position_one : {X : Type 0} (p : X → Bool) (xs : List X) (o : Option ℕ) → position p xs ≡ o → IsOne (length xs) o
position_one p [] None is = tt
position_one p [] (Some k) is = absurd cc
position_one p (x ∷ xs) None is = tt
position_one p (x ∷ xs) (Some k) is = (position-Some p (x ∷ xs) k x is).0

best_one : (admits : List ℕ → Bool) (names : List (List ℕ)) → IsOne (length names) (best_among admits names)
unfolding best_among
best_one admits names = position_one _ names (best_among admits names) refl

first_one : (names : List (List ℕ)) → IsOne (length names) (first_place names)
first_one [] = tt
first_one (n ∷ ns) = omega arith

existing_one : (posix : Bool) (f : Files) (names : List (List ℕ)) → IsOne (length names) (existing posix f names)
existing_one true f names = position_one (is_there f) names (position (is_there f) names) refl
existing_one false f names = best_one (is_there f) names

created_one : (n : ℕ) (o : Option ℕ) → IsOne n o → IsWithin n (created o)
created_one n None one = tt
created_one n (Some k) one = one

chosen_one : (n : ℕ) (other : Choice) (o : Option ℕ) → IsWithin n other → IsOne n o → IsWithin n (existing_or other o)
chosen_one n other None within one = within
chosen_one n other (Some k) within one = one

create_one : (names : List (List ℕ)) (operand makes posix : Bool) (f : Files) → IsWithin (length names) (to_create names operand makes posix f)
create_one names true makes posix f = created_one (length names) (first_place names) (first_one names)
create_one names false true true f = tt
create_one names false true false f = created_one (length names) (best_among (needs_fewest f names) names) (best_one (needs_fewest f names) names)
create_one names false false posix f = tt

among_one : (names : List (List ℕ)) (operand makes posix : Bool) (f : Files) → IsWithin (length names) (choice_among names operand makes posix f)
unfolding choice_among
among_one names operand makes posix f = chosen_one (length names) (to_create names operand makes posix f) (existing posix f names) (create_one names operand makes posix f) (existing_one posix f names)

there_one : (f : Files) (names : List (List ℕ)) (k : ℕ) (o : Option (List ℕ)) → slice_get names k ≡ o → IsWithin (length names) (existing_if (option_map_or (is_there f) o false) k)
there_one f names k None is = tt
there_one f names k (Some name) is = elim (is_there f name) as (λ b. IsWithin (length names) (existing_if b k)) [
  | true ↦ slice_get_within names k name is
  | false ↦ tt
]

place_one : (f : Files) (names : List (List ℕ)) (place : Option ℕ) → IsWithin (length names) (existing_at f names place)
place_one f names None = tt
place_one f names (Some k) = there_one f names k (slice_get names k) refl

or_one : (n : ℕ) (other c : Choice) → IsWithin n other → IsWithin n c → IsWithin n (chosen_or other c)
or_one n other (Existing k) within one = one
or_one n other (Create k) within one = one
or_one n other Nothing within one = within

moved_one : (f : Files) (names : List (List ℕ)) (action : Action) (side : Side) → IsWithin (length names) (moved_choice f names action side)
moved_one f names action side =
    or_one (length names) (existing_at f names (done_place action side)) (existing_at f names (source_place action side)) (place_one f names (done_place action side)) (place_one f names (source_place action side))

choice_one : (action : Action) (makes : Bool) (names : List (List ℕ)) (operand reverse posix : Bool) (f : Files) → IsWithin (length names) (choice action makes names operand reverse posix f)
unfolding choice
choice_one action makes names operand reverse posix f = elim (is_moved action) as (λ b. IsWithin (length names) (if b then moved_choice f names action (side_of reverse) else choice_among names operand makes posix f)) [
  | true ↦ moved_one f names action (side_of reverse)
  | false ↦ among_one names operand makes posix f
]

-- ---- from the choice to the hunks

-- where hunks are tried, it is at this place
unfoldable IsAt : ℕ → Start → Type 0
IsAt k (skips said row taken) = Unit {0}
IsAt k (refuses said fault) = Unit {0}
IsAt k (tries said place side) = place ≡ k

either : (k : ℕ) (b : Bool) (s o : Start) → IsAt k s → IsAt k o → IsAt k (if b then s else o)
either k true s o a b = a
either k false s o a b = b

skip_at : (k : ℕ) (said : List ℕ) (row : Row) (taken : Option (List ℕ)) → IsAt k (skips said row taken)
unfolding IsAt
skip_at k said row taken = tt

try_at : (k : ℕ) (said : List ℕ) (side : Side) → IsAt k (tries said k side)
unfolding IsAt
try_at k said side = refl

first_at : (k : ℕ) (text : List ℕ) (s : Start) → IsAt k s → IsAt k (said_first text s)
unfolding IsAt
first_at k text (skips said row taken) is = tt
first_at k text (refuses said fault) is = tt
first_at k text (tries said place side) is = is

direction_at : (t : PlainContext) (k : ℕ) (bytes : Option (List ℕ)) (was_turned : Bool) (side : Side) → IsAt k (on_direction t k bytes was_turned side)
direction_at t k bytes was_turned side =
    either k (t.options.force || was_turned || not (is_reversed t.options (lines_in bytes) side (first_hunk t.item.patch.change))) _ _ (try_at k _ _)
    (either k (turns_round t) _ _ (try_at k _ _) (skip_at k _ _ _))

prereq_at : (t : PlainContext) (k : ℕ) (bytes : Option (List ℕ)) (was_turned : Bool) (side : Side) → IsAt k (on_prereq t k bytes was_turned side)
prereq_at t k bytes was_turned side =
    let here = direction_at t k bytes was_turned side in
    either k (not (lacks_word t.item.patch.header.prereq bytes)) _ _ here (either k t.options.force _ _ (first_at k _ (on_direction t k bytes was_turned side) here) (skip_at k _ _ _))

refused_at : (k : ℕ) (o : Option OpenFault) (s : Start) → IsAt k s → IsAt k (refused_or o s)
unfolding IsAt
refused_at k None s is = is
refused_at k (Some fault) s is = tt

taking_at : (t : PlainContext) (k : ℕ) (bytes : Option (List ℕ)) (was_turned : Bool) (side : Side) → IsAt k (on_taking t k bytes was_turned side)
taking_at t k bytes was_turned side = refused_at k _ (on_prereq t k bytes was_turned side) (prereq_at t k bytes was_turned side)

misfit_at : (t : PlainContext) (k : ℕ) (stands : Standing) (bytes : Option (List ℕ)) (side : Side) → IsAt k (on_misfit t stands k bytes side)
misfit_at t k stands bytes side = either k (turns_round t) _ _ (first_at k _ (on_taking t k bytes true _) (taking_at t k bytes true _)) (skip_at k _ _ _)

fitting_at : (t : PlainContext) (k : ℕ) (bytes : Option (List ℕ)) (side : Side) (unfit : Option Standing) → IsAt k (on_fitting t k bytes side unfit)
fitting_at t k bytes side None = taking_at t k bytes false side
fitting_at t k bytes side (Some stands) = either k (is_forced t k) _ _ (taking_at t k bytes false side) (misfit_at t k stands bytes side)

file_at : (t : PlainContext) (f : Files) (k : ℕ) (side : Side) → IsAt k (on_file t f k side)
file_at t f k side = fitting_at t k (bytes_of t f k) side (unfit t f k side)

target_at_place : (t : PlainContext) (f : Files) (k : ℕ) → IsAt k (on_target t f k)
target_at_place t f k = either k (is_meant t.item.patch) _ _ (first_at k _ (on_file t f k _) (file_at t f k _)) (skip_at k _ _ _)

-- hunks are tried only at a place among the targets
abbrev pub IsTriedWithin : ℕ → Start → Type 0
IsTriedWithin n (skips said row taken) = Unit {0}
IsTriedWithin n (refuses said fault) = Unit {0}
IsTriedWithin n (tries said place side) = place < n

at_within : (n k : ℕ) (s : Start) → k < n → IsAt k s → IsTriedWithin n s
unfolding IsAt
at_within n k (skips said row taken) less is = tt
at_within n k (refuses said fault) less is = tt
at_within n k (tries said place side) less is = subst (λ x. x < n) (sym is) less

choice_within : (t : PlainContext) (f : Files) (n : ℕ) (c : Choice) → IsWithin n c → IsTriedWithin n (on_choice t f c)
choice_within t f n (Existing k) less = at_within n k (on_target t f k) less (target_at_place t f k)
choice_within t f n (Create k) less = at_within n k (on_target t f k) less (target_at_place t f k)
choice_within t f n Nothing less = tt

names_count : (targets : List Target) → length (names_of targets) ≡ length targets
names_count [] = refl
names_count (t ∷ targets) = ap suc (names_count targets)

first_within : (n : ℕ) (text : List ℕ) (s : Start) → IsTriedWithin n s → IsTriedWithin n (said_first text s)
first_within n text (skips said row taken) within = tt
first_within n text (refuses said fault) within = tt
first_within n text (tries said place side) within = within

pub start_within : (t : PlainContext) (f : Files) → IsTriedWithin (length t.item.targets) (start t f)
unfolding start
start_within t f = first_within (length t.item.targets) (skipped_said t) (own_start t f) (choice_within t f (length t.item.targets) (choice_of t f)
    (subst (λ n. IsWithin n (choice_of t f)) (names_count t.item.targets)
    (choice_one t.item.patch.header.action _ (names_of t.item.targets) _ _ _ f)))
