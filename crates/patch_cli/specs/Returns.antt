-- The line that tells that carriage returns were taken off a patch text (GNU patch manual, `--binary`).
use Rattle.std.specs.Prelude.{ℕ, Bool, not, ◌&&◌, List, [], codes, if◌then◌else◌}
use Rattle.patch_options.specs.PlainJob.{PlainOptions}
use Rattle.patch_set.specs.Asked.{ways_of}
use Rattle.read_clean_text.specs.Cleaned.{tells_stripping}
use Rattle.read_clean_text.specs.Indents.{unindented}

-- the text has a file patch with hunks of whose header the last line has a carriage return, and those of hunks aren't to be kept. The text in
-- the order in which it is carried out has the same file patches at other places, so the given one is looked at
abbrev pub strips_returns : PlainOptions → List ℕ → Bool
strips_returns o bytes = not o.keep_returns && tells_stripping (ways_of o) (unindented (ways_of o) bytes)

abbrev pub stripping_line : List ℕ
stripping_line = codes "(Stripping trailing CRs from patch; use --binary to disable.)\n"

-- the line is said
abbrev pub says_stripping : PlainOptions → Bool → Bool
says_stripping o strips = strips && not o.silent

-- what is said in front of all else
abbrev pub first_said : PlainOptions → Bool → List ℕ
first_said o strips = if says_stripping o strips then stripping_line else []
