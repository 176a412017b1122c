-- Which of its names a file patch is meant for (GNU diffutils manual, "Multiple Patches in a File"; POSIX `patch`, "Filename Determination"; git-diff(1), "Generating patch text with -p").
use Rattle.std.specs.Prelude.{◌≡◌, ℕ, ◌-◌, ◌<◌, List, [], ◌∷◌, ◌++◌, length, map, slice_index_or, count_by, nat_eq, nat_lt, Bool, true, false, not, ◌&&◌, slice_get, if◌then◌else◌, Option, None, Some, is_some}
use Rattle.std.specs.List.{list_any, position, starts_with, range_with_len}
use Rattle.std.specs.Option.{option_map_or}
use Rattle.std.specs.FinMap.{get, keys}
use Rattle.outside.specs.Files.{Files}
use Rattle.outside.specs.Names.{components, directory_text}
use Rattle.hunk_core.specs.declared.Side.{Side}
use Rattle.hunk_core.specs.declared.Side.TheVariants.{Forward, Reversed}
use Rattle.read_header_record.specs.declared.Action.{Action}
use Rattle.read_header_record.specs.declared.Action.TheVariants.{Plain, New, Deleted, Rename, Copy}
use Rattle.read_file_patch.specs.declared.derived.Target.{Target}
use Rattle.read_file_patch.specs.Actions.{is_moved}
use Rattle.name_choice.specs.declared.Choice.{Choice}
use Rattle.name_choice.specs.declared.Choice.TheVariants.{Existing, Create, Nothing}
use Rattle.name_choice.specs.Better.{best_among}

abbrev pub is_there : Files → List ℕ → Bool
is_there files name = is_some (get files name)

-- some file has a name that begins so
abbrev pub has_file_below : Files → List ℕ → Bool
has_file_below files directory = list_any (λ q. starts_with nat_eq q directory) (keys files)

-- no file stands below the first components of a name, so many of them
abbrev pub is_new_directory : Files → List ℕ → ℕ → Bool
is_new_directory files name parts = not (has_file_below files (directory_text parts name))

-- the directories of a name: its first component, its first two, and so on, but not all of them
abbrev pub directories : List ℕ → List ℕ
directories name = range_with_len 1 (length (components name) - 1)

-- how many of them are new
unfoldable pub new_directories : Files → List ℕ → ℕ
new_directories files name = count_by (is_new_directory files name) (directories name)

-- where a directory stands in front of the name: the new ones among it and those above it, and the others
abbrev pub new_in_front : Files → List ℕ → ℕ
new_in_front files front = count_by (is_new_directory files front) (range_with_len 1 (length (components front)))

abbrev pub new_behind : Files → List ℕ → List ℕ → ℕ
new_behind files front name = count_by (λ parts. not (has_file_below files (front ++ 47 ∷ directory_text parts name))) (directories name)

-- no name needs fewer new directories
abbrev pub needs_fewest : Files → List (List ℕ) → List ℕ → Bool
needs_fewest files names name = not (list_any (λ m. nat_lt (new_directories files m) (new_directories files name)) names)

abbrev pub first_place : List (List ℕ) → Option ℕ
first_place [] = None
first_place (n ∷ ns) = Some 0

abbrev pub existing_or : Choice → Option ℕ → Choice
existing_or other None = other
existing_or other (Some k) = Existing k

abbrev pub created : Option ℕ → Choice
created None = Nothing
created (Some k) = Create k

-- of the names that are in the tree the best, with option --posix the first
abbrev pub existing : Bool → Files → List (List ℕ) → Option ℕ
existing posix files names = if posix then position (is_there files) names else best_among (is_there files) names

-- a name that isn't there: the operand, which is the one name; else, without --posix and where one can be made, the best of those that need the fewest new directories
abbrev pub to_create : List (List ℕ) → Bool → Bool → Bool → Files → Choice
to_create names operand makes posix files = if operand then created (first_place names)
    else if makes && not posix then created (best_among (needs_fewest files names) names)
    else Nothing

-- a name that is in the tree, or else one that isn't
unfoldable pub choice_among : List (List ℕ) → Bool → Bool → Bool → Files → Choice
choice_among names operand makes posix files = existing_or (to_create names operand makes posix files) (existing posix files names)

-- ---- renames and copies, whose names are the one that the file has and the one that it gets

-- the name at a place is in the tree
abbrev pub is_there_at : Files → List (List ℕ) → ℕ → Bool
is_there_at files names k = option_map_or (is_there files) (slice_get names k) false

abbrev pub existing_if : Bool → ℕ → Choice
existing_if true k = Existing k
existing_if false k = Nothing

-- the place of the name that the file has before it is renamed or copied, or where a rename is taken back; a copy can't be taken back
abbrev pub source_place : Action → Side → Option ℕ
source_place Rename Forward = Some 0
source_place Rename Reversed = Some 1
source_place Copy Forward = Some 0
source_place Copy Reversed = None
source_place Plain side = None
source_place New side = None
source_place Deleted side = None

-- the place of the name that a renamed file has once that is done: the other one; a copy leaves both, so nothing tells that it was done
abbrev pub done_place : Action → Side → Option ℕ
done_place Rename Forward = Some 1
done_place Rename Reversed = Some 0
done_place Copy side = None
done_place Plain side = None
done_place New side = None
done_place Deleted side = None

-- the name at a place, if that is in the tree
abbrev pub existing_at : Files → List (List ℕ) → Option ℕ → Choice
existing_at files names None = Nothing
existing_at files names (Some k) = existing_if (is_there_at files names k) k

-- one choice, or where it is of nothing the other one
abbrev pub chosen_or : Choice → Choice → Choice
chosen_or other Nothing = other
chosen_or other (Existing k) = Existing k
chosen_or other (Create k) = Create k

-- the file has the name that it had before; else a rename counts as done before where the file has the other name:
--   the name before | the other one | of a rename                    | of a copy
--   there           | there or not  | the name before                | the name before
--   not there       | there         | the other one, it's done       | nothing
--   not there       | not there     | nothing                        | nothing
abbrev pub moved_choice : Files → List (List ℕ) → Action → Side → Choice
moved_choice files names action side = chosen_or (existing_at files names (done_place action side)) (existing_at files names (source_place action side))

-- ---- the choice

-- the side from which a file patch is taken
abbrev pub side_of : Bool → Side
side_of true = Reversed
side_of false = Forward

-- for a file patch of this action that names a file which isn't there or doesn't, with these names: where there is an operand, where the file patch is taken reversed, and with option --posix
unfoldable pub choice : Action → Bool → List (List ℕ) → Bool → Bool → Bool → Files → Choice
choice action makes names operand reverse posix files = if is_moved action
    then moved_choice files names action (side_of reverse)
    else choice_among names operand makes posix files

-- the names of targets
abbrev pub names_of : List Target → List (List ℕ)
names_of targets = map (λ t. t.name) targets

-- the number of a choice is that of one of so many names
abbrev pub IsWithin : ℕ → Choice → Type 0
IsWithin count (Existing k) = k < count
IsWithin count (Create k) = k < count
IsWithin count Nothing = Unit {0}

-- a chosen target is in the tree, and one that is to be made isn't
abbrev pub IsFound : List Target → Files → Choice → Type 0
IsFound targets files (Existing k) = (t : Target) → t ≡ slice_index_or targets k t → is_there files t.name ≡ true
IsFound targets files (Create k) = (t : Target) → t ≡ slice_index_or targets k t → is_there files t.name ≡ false
IsFound targets files Nothing = Unit {0}
