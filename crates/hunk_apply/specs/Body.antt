-- The lines of a hunk as they are taken from a side, one by one.
use Rattle.std.specs.Prelude.{ℕ, List, map}
use Rattle.hunk_core.specs.declared.Side.{Side}
use Rattle.hunk_core.specs.declared.HunkLine.{HunkLine}
use Rattle.hunk_core.specs.PlainHunk.{Marked, marked_of}
use Rattle.hunk_core.specs.Turned.{taken_mark}

abbrev pub side_marked : List ℕ → Side → HunkLine → Marked
side_marked text side l = record { mark = taken_mark side l.mark; line = (marked_of text l).line }

abbrev pub side_body : List ℕ → Side → List HunkLine → List Marked
side_body text side ls = map (side_marked text side) ls
