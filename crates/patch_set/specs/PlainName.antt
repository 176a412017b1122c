-- The one name by which a filter knows a file patch, as its header lines write it.
use Rattle.std.specs.Prelude.{ℕ, List, [], if◌then◌else◌, Option, None, Some}
use Rattle.std.specs.Option.{option_map_or, option_or}
use Rattle.read_file_patch.specs.PlainPatch.{PlainHeader}
use Rattle.read_file_patch.specs.Absent.{is_null}
use Rattle.name_choice.specs.Better.{is_better}

-- a name that is a file's: `/dev/null` is none
abbrev pub file_name : Option (List ℕ) → Option (List ℕ)
file_name name = if is_null name then None else name

-- the better of two names that may be missing; of equally good ones the first
abbrev pub better_of : Option (List ℕ) → Option (List ℕ) → Option (List ℕ)
better_of None second = second
better_of (Some first) None = Some first
better_of (Some first) (Some second) = if is_better second first then Some second else Some first

-- the better one of the old and the new name, or else the name that the file is renamed or copied to, or else the name of the `Index:` line, or else the empty text
abbrev pub plain_name : PlainHeader → List ℕ
plain_name h = option_map_or (λ name. name) (option_or (better_of (file_name h.old_name) (file_name h.new_name)) (option_or h.to h.index)) []
