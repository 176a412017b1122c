-- What a run says of the binary changes that are passed over, and which of them fail.
use Rattle.std.specs.Prelude.{ℕ, List, Bool, not, ◌&&◌, Option, None, Some, if◌then◌else◌}
use Rattle.std.specs.List.{flat_map, list_any}
use Rattle.outside.specs.Names.{last_component}
use Rattle.read_file_patch.specs.Stripped.{shortened}
use Rattle.patch_options.specs.PlainJob.{PlainOptions}
use Rattle.patch_set.specs.declared.skipped.BinaryChange.{BinaryChange}
use Rattle.say_text.specs.Messages.{skipping_line, image_line}

-- an image isn't put in, which is a failure where it isn't asked for
abbrev pub is_failing : PlainOptions → BinaryChange → Bool
is_failing o c = c.is_image && not o.skip_binary

-- what `-p` leaves of a name, of one that has too few slashes its last component
abbrev pub left_of : Option ℕ → List ℕ → List ℕ
left_of None name = last_component name
left_of (Some count) name = shortened count name

-- the line of a change that fails has the name of its file, if it has one
abbrev pub failing_line : PlainOptions → ℕ → Option (List ℕ) → List ℕ
failing_line o line None = skipping_line line
failing_line o line (Some name) = image_line (left_of o.strip name)

abbrev pub change_line : PlainOptions → BinaryChange → List ℕ
change_line o c = if is_failing o c then failing_line o c.line c.name else skipping_line c.line

-- what is said of binary changes, one after another
unfoldable pub changes_said : PlainOptions → List BinaryChange → List ℕ
changes_said o cs = flat_map (change_line o) cs

-- one of them fails
abbrev pub has_failing : PlainOptions → List BinaryChange → Bool
has_failing o cs = list_any (is_failing o) cs
