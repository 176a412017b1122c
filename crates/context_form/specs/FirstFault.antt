-- What makes a fault the first one.
use Rattle.std.specs.Prelude.{ℕ, zero, suc, ◌+◌, List, [], ◌∷◌, length, is_some, Result, Ok, Err, if◌then◌else◌}
use Rattle.hunk_core.specs.declared.BadKind.{BadKind}
use Rattle.hunk_core.specs.declared.BadKind.TheVariants as kinds
use Rattle.hunk_core.specs.PlainHunk.{PlainHunk}
use Rattle.hunk_core.specs.LineTests.{after_backslash}
use Rattle.hunk_core.specs.Reading.{Fault, Ahead, ahead}
use Rattle.context_form.specs.Hunks.{PlainPart, parts_at, whole}

-- how far behind its own line a fault in the lines of a part is decided: whether the greatest number is too large as a start is told by the first line of the part, and that is asked before the count of the old part
abbrev pub lines_behind : BadKind → ℕ
lines_behind kinds.Range = 0
lines_behind kinds.Mark = 0
lines_behind kinds.Count = 1
lines_behind kinds.ShortEnd = 0
lines_behind kinds.NumberTooLarge = 1
lines_behind kinds.SidesDiffer = 0
lines_behind kinds.MisplacedBackslash = 0
lines_behind kinds.EdCommand = 0
lines_behind kinds.EdOrder = 0
lines_behind kinds.EdNoDot = 0
lines_behind kinds.Binary = 0
lines_behind kinds.HunkOrder = 0

-- the line that decides a fault in the lines of a part
abbrev pub reach : Fault → ℕ
reach e = e.line + lines_behind e.kind

-- what stands behind the first line
abbrev pub behind_first : ℕ → List (List ℕ) → Ahead
behind_first number [] = ahead number []
behind_first number (line ∷ rest) = ahead (number + 1) rest

-- a fault of two whole parts is decided by the line behind them
abbrev pub decided_whole : ℕ → Result PlainHunk Fault → (PlainHunk → ℕ) → ℕ
decided_whole behind (Err e) later = behind
decided_whole behind (Ok h) later = later h

-- a fault in the lines of the parts is decided by its own line, or by the one behind it
abbrev pub decided_parts : Result ((PlainPart × PlainPart) × Ahead) Fault → ((PlainPart × PlainPart) × Ahead → ℕ) → ℕ
decided_parts (Err e) later = reach e
decided_parts (Ok x) later = later x

-- a backslash line behind a hunk is decided by its own line
abbrev pub decided_behind : Ahead → ℕ → ℕ
decided_behind p later = if is_some (after_backslash p.rest) then p.number else later

-- the line up to which the fault of at most so many hunks is decided, where they have one
unfoldable pub decided_at : ℕ → ℕ → Ahead → ℕ
decided_at zero least p = p.number
decided_at (suc most) least p = decided_parts (parts_at least (behind_first p.number p.rest)) (λ x. decided_whole x.1.number (whole x.0.0 x.0.1) (λ h. decided_behind x.1 (decided_at most h.old_start x.1)))

-- the line up to which the fault of these lines is decided
abbrev pub decided_by : ℕ → List (List ℕ) → ℕ
decided_by number rest = decided_at (length rest) 0 (ahead number rest)
