-- A file patch whose turn it is, and the names of its files.
use Rattle.std.specs.Prelude.{ℕ, List, [], drop, slice_index_or, slice_get, Bool, false, if◌then◌else◌, bytes_eq, Option, None, unwrap_or}
use Rattle.std.specs.List.{list_any}
use Rattle.std.specs.Option.{option_or, option_and_then, option_map_or}
use Rattle.std.specs.FinMap.{get}
use Rattle.outside.specs.Files.{Files}
use Rattle.patch_options.specs.PlainJob.{PlainOptions}
use Rattle.read_file_patch.specs.declared.derived.Target.{Target}
use Rattle.read_file_patch.specs.PlainPatch.{PlainPatch, hunk_count}
use Rattle.patch_set.specs.declared.set.Row.{Row}
use Rattle.patch_set.specs.declared.skipped.BinaryChange.{BinaryChange}
use Rattle.apply_task.specs.Asking.{renames, source_at, written_place}

-- a file patch, the files that it can be meant for, the binary changes of its text that are passed over, and of each file patch of its text that renames or copies a file the two names
pub record Item : Type 0 where
  pub patch : PlainPatch
  pub targets : List Target
  pub skipped : List BinaryChange
  pub moved : List (List Target)

-- what later file patches ask of one: the name that it made or took away as its target, of a rename the one that it read, and its reject text with the name of that file
pub record PastFilePatch : Type 0 where
  pub written : Option (List ℕ)
  pub renamed : Option (List ℕ)
  pub rejected : Option (List ℕ × List ℕ)

-- a file patch whose turn it is: the output of the options, if they name one, and the marks of the file patches in front of it
pub record PlainContext : Type 0 where
  pub options : PlainOptions
  pub output : Option Target
  pub item : Item
  pub past : List PastFilePatch

abbrev pub no_target : Target
no_target = record { number = 0; shown_from = 0; reject_shown_from = 0; name = []; temp = []; backup = []; backup_temp = []; reject = []; reject_temp = [] }

abbrev pub target_at : List Target → ℕ → Target
target_at targets k = slice_index_or targets k no_target

-- the target that is written, where this one was chosen
abbrev pub written_at : Bool → Item → ℕ → Option Target
written_at reverse i place = option_or (slice_get i.targets (written_place reverse i.patch place)) (slice_get i.targets place)

-- the target that is written: the output, or the chosen one, or the other one of a file that gets that name
abbrev pub written : PlainContext → ℕ → Target
written t place = unwrap_or t.output (unwrap_or (written_at t.options.reverse t.item place) (target_at t.item.targets place))

-- the same of a file patch whose turn was before, which may have chosen none
abbrev pub written_by : PlainContext → Row → Option Target
written_by t r = option_or t.output (option_and_then (written_at t.options.reverse t.item) r.target)

-- of a rename the target that it read
abbrev pub renamed_by : PlainContext → Row → Option Target
renamed_by t r = if renames t.item.patch then option_and_then (slice_get t.item.targets) r.target else None

-- the bytes of the chosen file, where it is there
abbrev pub bytes_of : PlainContext → Files → ℕ → Option (List ℕ)
bytes_of t files place = get files (target_at t.item.targets place).name

-- a name as messages show it
abbrev pub shown : Target → List ℕ
shown t = drop t.shown_from t.name

abbrev pub shown_reject : Target → List ℕ
shown_reject t = drop t.reject_shown_from t.reject

abbrev pub total : PlainContext → ℕ
total t = hunk_count t.item.patch.change

abbrev pub has_at : ℕ → List ℕ → List Target → Bool
has_at place name targets = option_map_or (λ w. bytes_eq name w.name) (slice_get targets place) false

-- a file patch of the text renames or copies the file of this name
abbrev pub is_source : PlainContext → List ℕ → Bool
is_source t name = list_any (has_at (source_at t.options.reverse) name) t.item.moved
