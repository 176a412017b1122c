-- Modes, as git writes them: six octal digits, of which the first three tell a file's type (git-diff(1), "Generating patch text with -p").
use Rattle.std.specs.Prelude.{ℕ, ◌%◌, Bool, ◌&&◌, ◌==◌, List, length, slice_index, codes, Option, None, Some, if◌then◌else◌}
use Rattle.hunk_core.specs.LineTests.{after}
use Rattle.read_header_record.specs.Quoted.{is_octal}

-- three octal digits: what the owner may do, the group, and all others
abbrev pub are_rights : List ℕ → Bool
are_rights digits = length digits == 3 && (is_octal (slice_index digits 0) && (is_octal (slice_index digits 1) && is_octal (slice_index digits 2)))

-- who may execute a file has an odd digit
abbrev pub owner_executes : List ℕ → Bool
owner_executes digits = slice_index digits 0 % 2 == 1

abbrev pub executable_by : Option (List ℕ) → Option Bool
executable_by None = None
executable_by (Some digits) = if are_rights digits then Some (owner_executes digits) else None

-- whether a mode lets a file's owner execute it; it says so of a regular file alone, whose type is 100
unfoldable pub is_executable : List ℕ → Option Bool
is_executable mode = executable_by (after (codes "100") mode)
