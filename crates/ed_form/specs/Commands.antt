-- The command at the front of an edit.
use Rattle.std.specs.Prelude.{ℕ, ◌+◌, ◌^◌, ◌<◌, Bool, false, not, nat_lt, ◌==◌, ◌||◌, List, [], ◌∷◌, Option, None, Some, is_some, Result, Ok, Err, if◌then◌else◌}
use Rattle.hunk_core.specs.declared.BadKind.{BadKind}
use Rattle.hunk_core.specs.declared.BadKind.TheVariants as kinds
use Rattle.hunk_core.specs.Letters.{action_at, is_line_end}
use Rattle.hunk_core.specs.declared.command.Action.{Action}
use Rattle.hunk_core.specs.declared.command.Action.TheVariants.{Add, Change, Delete}
use Rattle.num_text.specs.declared.range.NumberRange.{NumberRange}
use Rattle.num_text.specs.NumberRanges.{range_at}
use Rattle.hunk_core.specs.OptionSteps.{◌>>=◌}
use Rattle.ed_form.specs.declared.command.Command.{Command}
use Rattle.ed_form.specs.declared.command.Heading.{Heading}

-- a command, and nothing behind it
abbrev pub whole : NumberRange → Action → List ℕ → Option Command
whole range action rest = if is_line_end rest then Some (record { range = range; action = action }) else None

-- one address or two, and a letter
unfoldable pub parts_at : List ℕ → Option Command
parts_at line = do
  range ← range_at line
  action ← action_at range.1
  whole range.0 action.0 action.1

-- the line is a command
abbrev pub is_command : List ℕ → Bool
is_command line = is_some (parts_at line)

-- a command opens these lines
abbrev pub begins_script : List (List ℕ) → Bool
begins_script [] = false
begins_script (line ∷ rest) = is_command line

-- two addresses for the place behind a line; or lines that start at 0, or a second address below the first
abbrev pub is_bad_range : Action → NumberRange → Bool
is_bad_range Add range = not range.is_single
is_bad_range Change range = range.is_turned || range.first == 0
is_bad_range Delete range = range.is_turned || range.first == 0

-- the first line that is taken away, or the one behind the place
abbrev pub start : Action → NumberRange → ℕ
start Add range = range.last + 1
start Change range = range.first
start Delete range = range.first

-- what a command does, and to which lines
abbrev pub heading : Command → Heading
heading c = record { action = c.action; first = start c.action c.range; last = c.range.last }

-- a number above the greatest
abbrev pub is_too_large : Heading → Bool
is_too_large h = nat_lt 4294967295 h.first || nat_lt 4294967295 h.last

-- no number is above the greatest
pub record Fits (h : Heading) : Type 0 where
  pub first : h.first < 2 ^ 32
  pub last : h.last < 2 ^ 32

-- the tests on addresses that are lawful as ranges; the last one must be below this number
abbrev pub placed : ℕ → Heading → Result Heading BadKind
placed below h = if is_too_large h then Err kinds.NumberTooLarge
    else if nat_lt h.last below then Ok h
    else Err kinds.EdOrder

-- the tests on a command in their order
abbrev pub checked : ℕ → Command → Result Heading BadKind
checked below c = if is_bad_range c.action c.range then Err kinds.Range else placed below (heading c)

-- a line that has not the form of a command is a bad range
abbrev pub from_parts : ℕ → Option Command → Result Heading BadKind
from_parts below None = Err kinds.Range
from_parts below (Some c) = checked below c

-- the command of an edit whose last address must be below this number, or why it is none
abbrev pub opening : ℕ → List ℕ → Result Heading BadKind
opening below line = from_parts below (parts_at line)
