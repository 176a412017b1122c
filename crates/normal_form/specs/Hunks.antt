-- Hunks that follow each other, read line by line.
use Rattle.std.specs.Prelude.{ℕ, ◌+◌, Bool, false, ◌&&◌, ◌||◌, List, [], ◌∷◌, is_some, Result, Ok, Err}
use Rattle.hunk_core.specs.declared.BadKind.{BadKind}
use Rattle.hunk_core.specs.declared.BadKind.TheVariants as kinds
use Rattle.hunk_core.specs.declared.Side.TheVariants.{Forward, Reversed}
use Rattle.hunk_core.specs.PlainHunk.{Marked, PlainHunk}
use Rattle.hunk_core.specs.LineTests.{after}
use Rattle.hunk_core.specs.Reading.{Fault, fault, ◌>>=◌, Ahead, ahead}
use Rattle.hunk_core.specs.Refusals.{settled}
use Rattle.hunk_core.specs.Following.{hunks_by, reading_by}
use Rattle.normal_form.specs.declared.command.Command.{Command}
use Rattle.normal_form.specs.Commands.{opening, is_command}
use Rattle.normal_form.specs.Stretches.{marks, stretch_at, divider_at}

-- the command, or the fault of this line
abbrev pub at_line : ℕ → Result Command BadKind → Result Command Fault
at_line number (Ok c) = Ok c
at_line number (Err kind) = Err (fault number kind)

-- the lines that a command speaks of: the old ones, for a change the line between the sides, the new ones
unfoldable pub body_at : Command → Ahead → Result (List Marked × Ahead) Fault
body_at c p = do
  old ← stretch_at Forward c.old_count [] p
  middle ← divider_at c.action old.1
  stretch_at Reversed c.new_count old.0 middle.1

-- a hunk with these starts
abbrev pub change : Command → List Marked → PlainHunk
change c body = record { old_start = c.old_start; new_start = c.new_start; body = body }

-- a hunk whose command is the first of these lines, and what is ahead behind it
unfoldable pub first_hunk : ℕ → ℕ → List (List ℕ) → Result (PlainHunk × Ahead) Fault
first_hunk least number [] = Err (fault number kinds.ShortEnd)
first_hunk least number (line ∷ rest) = do
  c ← at_line number (opening least line)
  body ← body_at c (ahead (number + 1) rest)
  settled (change c body.0) body.1

-- a hunk that starts at least
abbrev pub hunk_at : ℕ → Ahead → Result (PlainHunk × Ahead) Fault
hunk_at least p = first_hunk least p.number p.rest

-- '< ' or '> '
abbrev pub is_marked : List ℕ → Bool
is_marked line = is_some (after (marks Forward) line) || is_some (after (marks Reversed) line)

-- a marked line comes first
abbrev pub begins_marked : List (List ℕ) → Bool
begins_marked [] = false
begins_marked (line ∷ rest) = is_marked line

-- a hunk opens these lines: a command, and a marked line behind it
abbrev pub begins_hunk : List (List ℕ) → Bool
begins_hunk [] = false
begins_hunk (line ∷ rest) = is_command line && begins_marked rest

-- at most so many hunks that follow each other
abbrev pub hunks_at : ℕ → ℕ → Ahead → Result (List PlainHunk × Ahead) Fault
hunks_at most least p = hunks_by begins_hunk hunk_at most least p

-- the hunks at the front of these lines, and what stands behind them, or the first fault
abbrev pub reading : ℕ → List (List ℕ) → Result (List PlainHunk × Ahead) Fault
reading number rest = reading_by begins_hunk hunk_at number rest
