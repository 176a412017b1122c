-- How far the code has come, and what is left.
use Rattle.std.specs.Prelude.{◌≡◌, ℕ, ◌+◌, ◌≤◌, ◌<◌, false, List, ◌++◌, length, drop, Result, Ok, Err}
use Rattle.line_list.specs.Lines.{lines}
use Rattle.hunk_core.specs.declared.BadKind.{BadKind}
use Rattle.hunk_core.specs.declared.fault.FormFault.{FormFault}
use Rattle.hunk_core.specs.Reading.{Fault, ◌>>=◌, Fails}
use Rattle.unified_form.specs.declared.range.Ranges.{Ranges}
use Rattle.split_recount.specs.declared.ranges.Range.{Range}
use Rattle.split_recount.specs.declared.recounting.Reached.{Reached}
use Rattle.split_recount.specs.RangeLines.{line_with}
use Rattle.split_recount.specs.Measured.{left_of}
use Rattle.split_recount.specs.Recounted.{recounting, bytes_of}

-- what a function returned, seen by view
abbrev pub Says : {X Y : Type 0} → (X → Y) → Result X BadKind → Result Y BadKind → Type 0
Says view (Ok x) read = read ≡ Ok (view x)
Says view (Err kind) read = read ≡ Err kind

-- two ranges as those of a range line
abbrev pub both_ranges : Range → Range → Ranges
both_ranges old new = record { old_start = old.start; old_count = old.count; new_start = new.start; new_count = new.count }

-- a range line with these ranges and this rest
abbrev pub written : Range → Range → List ℕ → List ℕ
written old new rest = line_with old.start new.start (record { old = old.count; new = new.count }) rest

-- a place between the lines of a text, and what can't run over
pub record IsReached (text : List ℕ) (r : Reached) : Type 0 where
  pub within : r.at ≤ length text
  pub number : r.number ≤ r.at + 1
  pub old : r.earlier.old ≤ r.at
  pub new : r.earlier.new ≤ r.at

-- what the text from there on becomes
abbrev pub ahead_of : List ℕ → Reached → Result (List (List ℕ)) Fault
ahead_of text r = recounting r.number (left_of r.earlier) false (lines (drop r.at text))

-- these bytes, and those of lines behind them
abbrev pub behind : List ℕ → Result (List (List ℕ)) Fault → Result (List ℕ) Fault
behind out read = read >>= λ ls. Ok (out ++ bytes_of ls)

-- a step wrote bytes, and the rest becomes what it would have; or it found the fault
abbrev pub Steps : List ℕ → List ℕ → List ℕ → Reached → Result Reached FormFault → Type 0
Steps text old new from (Ok to) = IsReached text to × (from.at < to.at) × (behind old (ahead_of text from) ≡ behind new (ahead_of text to))
Steps text old new from (Err e) = Fails e (ahead_of text from)
