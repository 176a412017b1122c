-- The output of all hunks of a file.
use Rattle.std.specs.Prelude.{ℕ, List, map, Bool}
use Rattle.hunk_core.specs.declared.Side.{Side}
use Rattle.hunk_core.specs.declared.Hunk.{Hunk}
use Rattle.hunk_core.specs.PlainHunk.{PlainHunk}
use Rattle.hunk_place.specs.Taken.{taken}
use Rattle.hunk_place.specs.Verdicts.{spots, at_start}
use Rattle.line_list.specs.Join.{join}
use Rattle.hunk_apply.specs.Splice.{all_edits, spliced}

-- hunks as they are taken from a side
abbrev pub taken_all : List ℕ → Side → List Hunk → List PlainHunk
taken_all text side hunks = map (taken text side) hunks

-- the text of a file with its hunks applied (POSIX patch, Patch Application)
unfoldable pub applied : List (List ℕ) → ℕ → Bool → List PlainHunk → List ℕ
applied lines fuzz loose hunks = join (spliced lines (all_edits (spots lines fuzz loose at_start hunks) hunks))
