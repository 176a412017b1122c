-- The command of a hunk.
use Rattle.std.specs.Prelude.{ℕ, ◌+◌, ◌-◌, ◌^◌, ◌<◌, ◌≤◌, Bool, true, false, not, nat_lt, ◌==◌, ◌||◌, List, Option, None, Some, is_some, Result, Ok, Err, if◌then◌else◌}
use Rattle.hunk_core.specs.declared.BadKind.{BadKind}
use Rattle.hunk_core.specs.declared.BadKind.TheVariants as kinds
use Rattle.hunk_core.specs.declared.Side.{Side}
use Rattle.hunk_core.specs.declared.Side.TheVariants.{Forward, Reversed}
use Rattle.hunk_core.specs.Letters.{action_at, is_line_end}
use Rattle.num_text.specs.declared.range.NumberRange.{NumberRange}
use Rattle.num_text.specs.NumberRanges.{range_at, HasSmallEnds}
use Rattle.hunk_core.specs.declared.command.Action.{Action}
use Rattle.hunk_core.specs.declared.command.Action.TheVariants.{Add, Change, Delete}
use Rattle.hunk_core.specs.Rules.{is_too_large}
use Rattle.hunk_core.specs.OptionSteps.{◌>>=◌}
use Rattle.normal_form.specs.declared.command.Parts.{Parts}
use Rattle.normal_form.specs.declared.command.Command.{Command}

-- the parts of a command, and nothing behind them
abbrev pub whole : NumberRange → Action → NumberRange → List ℕ → Option Parts
whole old action new rest = if is_line_end rest then Some (record { old = old; action = action; new = new }) else None

-- a range, a letter, a range
unfoldable pub parts_at : List ℕ → Option Parts
parts_at line = do
  old ← range_at line
  action ← action_at old.1
  new ← range_at action.1
  whole old.0 action.0 new.0 new.1

-- the line is a command
abbrev pub is_command : List ℕ → Bool
is_command line = is_some (parts_at line)

-- no number is above 2 ^ 32
pub record HaveSmallEnds (p : Parts) : Type 0 where
  pub old : HasSmallEnds p.old
  pub new : HasSmallEnds p.new

-- a command speaks of lines on this side, and not of the place behind one: on the old side 'c' and 'd', on the new side 'a' and 'c'
abbrev pub takes_lines : Action → Side → Bool
takes_lines Add Forward = false
takes_lines Add Reversed = true
takes_lines Change side = true
takes_lines Delete Forward = true
takes_lines Delete Reversed = false

-- a second number below the first, lines that start at 0, or two numbers for a place
abbrev pub is_bad_range : NumberRange → Bool → Bool
is_bad_range r true = r.is_turned || r.first == 0
is_bad_range r false = not r.is_single

-- how many lines a range has
abbrev pub size : NumberRange → Bool → ℕ
size r true = (r.last - r.first) + 1
size r false = 0

-- a command with its counts
abbrev pub command : Parts → Command
command p = record { action = p.action; old_start = p.old.first; old_count = size p.old (takes_lines p.action Forward); new_start = p.new.first; new_count = size p.new (takes_lines p.action Reversed) }

-- its numbers can be added
pub record IsSmall (c : Command) : Type 0 where
  pub old_start : c.old_start ≤ 2 ^ 32
  pub old_count : c.old_count ≤ 2 ^ 32 + 1
  pub new_start : c.new_start ≤ 2 ^ 32
  pub new_count : c.new_count ≤ 2 ^ 32 + 1

-- no start, and no line of a range, has a number above the greatest
pub record Fits (c : Command) : Type 0 where
  pub old : c.old_start + c.old_count < 2 ^ 32
  pub new : c.new_start + c.new_count < 2 ^ 32

-- the tests on numbers that are lawful as ranges
abbrev pub placed : ℕ → Command → Result Command BadKind
placed least c = if is_too_large c.old_start c.old_count || is_too_large c.new_start c.new_count then Err kinds.NumberTooLarge
    else if nat_lt c.old_start least then Err kinds.HunkOrder
    else Ok c

-- the tests on a command in their order
abbrev pub checked : ℕ → Parts → Result Command BadKind
checked least p = if is_bad_range p.old (takes_lines p.action Forward) || is_bad_range p.new (takes_lines p.action Reversed) then Err kinds.Range else placed least (command p)

-- a line that has not the form of a command is a bad range
abbrev pub from_parts : ℕ → Option Parts → Result Command BadKind
from_parts least None = Err kinds.Range
from_parts least (Some p) = checked least p

-- the command of a hunk behind one that starts at least, or why it is none
abbrev pub opening : ℕ → List ℕ → Result Command BadKind
opening least line = from_parts least (parts_at line)
