-- The old lines of a hunk as it is taken from a side.
use Rattle.std.specs.Prelude.{ℕ, List, map}
use Rattle.hunk_core.specs.declared.Side.{Side}
use Rattle.hunk_core.specs.declared.Side.TheVariants.{Forward, Reversed}
use Rattle.hunk_core.specs.declared.HunkLine.{HunkLine}
use Rattle.hunk_core.specs.declared.Hunk.{Hunk}
use Rattle.hunk_core.specs.PlainHunk.{PlainHunk, hunk_of, body_of, old_lines}
use Rattle.hunk_core.specs.Turned.{turned, swapped_line}

-- the old lines of a hunk as it is taken from a side
unfoldable pub taken_lines : List ℕ → Side → Hunk → List (List ℕ)
taken_lines text side h = old_lines (turned side (hunk_of text h)).body

-- a hunk as it is taken from a side
abbrev pub taken : List ℕ → Side → Hunk → PlainHunk
taken text side h = turned side (hunk_of text h)

-- the old lines of a body
abbrev pub side_lines : List ℕ → Side → List HunkLine → List (List ℕ)
side_lines text Forward ls = old_lines (body_of text ls)
side_lines text Reversed ls = old_lines (map swapped_line (body_of text ls))
