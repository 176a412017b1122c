-- Edits that follow each other, read line by line.
use Rattle.std.specs.Prelude.{ℕ, zero, suc, ◌+◌, ◌^◌, Bool, false, List, [], ◌∷◌, length, Result, Ok, Err, if◌then◌else◌}
use Rattle.line_list.specs.Lines.{lines}
use Rattle.std.specs.Prelude.{drop}
use Rattle.hunk_core.specs.declared.BadKind.{BadKind}
use Rattle.hunk_core.specs.declared.BadKind.TheVariants as kinds
use Rattle.hunk_core.specs.Reading.{Fault, fault, ◌>>=◌, Ahead, ahead}
use Rattle.hunk_core.specs.declared.command.Action.{Action}
use Rattle.hunk_core.specs.declared.command.Action.TheVariants.{Add, Change, Delete}
use Rattle.ed_form.specs.declared.added.TextState.TheVariants.{Text}
use Rattle.ed_form.specs.declared.command.Heading.{Heading}
use Rattle.ed_form.specs.declared.script.EdScript.{EdScript}
use Rattle.ed_form.specs.Commands.{opening, begins_script}
use Rattle.ed_form.specs.PlainEdit.{PlainEdit, lowest, edits_of}
use Rattle.ed_form.specs.Texts.{text_at, is_substitution}

-- what a command has, or the fault of this line
abbrev pub at_line : ℕ → Result Heading BadKind → Result Heading Fault
at_line number (Ok h) = Ok h
at_line number (Err kind) = Err (fault number kind)

-- the lines that a command of the line opened adds
abbrev pub added_at : ℕ → Action → Ahead → Result (List (List ℕ) × Ahead) Fault
added_at opened Add p = text_at opened Text [] p.number p.rest
added_at opened Change p = text_at opened Text [] p.number p.rest
added_at opened Delete p = Ok ([], p)

-- an edit of these lines
abbrev pub edit : Heading → List (List ℕ) → PlainEdit
edit h added = record { first = h.first; last = h.last; added = added }

-- an edit whose command is the first of these lines, and what is ahead behind it
unfoldable pub first_edit : ℕ → ℕ → List (List ℕ) → Result (PlainEdit × Ahead) Fault
first_edit below number [] = Err (fault number kinds.Range)
first_edit below number (line ∷ rest) = do
  h ← at_line number (opening below line)
  text ← added_at number h.action (ahead (number + 1) rest)
  Ok (edit h text.0, text.1)

-- an edit whose last address must be below this number
abbrev pub edit_at : ℕ → Ahead → Result (PlainEdit × Ahead) Fault
edit_at below p = first_edit below p.number p.rest

-- 's/' opens these lines
abbrev pub begins_substitution : List (List ℕ) → Bool
begins_substitution [] = false
begins_substitution (line ∷ rest) = is_substitution line

-- nothing more is of the script; a substitution may not stand here
abbrev pub no_edits : Ahead → Result (List PlainEdit × Ahead) Fault
no_edits p = if begins_substitution p.rest then Err (fault p.number kinds.EdCommand) else Ok ([], p)

-- at most so many edits that follow each other
unfoldable pub edits_at : ℕ → ℕ → Ahead → Result (List PlainEdit × Ahead) Fault
edits_at zero below p = no_edits p
edits_at (suc most) below p = if begins_script p.rest then (edit_at below p >>= λ first. edits_at most (lowest first.0) first.1 >>= λ others. Ok (first.0 ∷ others.0, others.1)) else no_edits p

-- the edits at the front of these lines, and what stands behind them, or the first fault. `1,2a` is a bad range. A second
-- `s/.//` finds a last line `.` and is out of scope; `a` behind a `.` without `s/.//` ends the script
abbrev pub reading : ℕ → List (List ℕ) → Result (List PlainEdit × Ahead) Fault
reading number rest = edits_at (length rest) (2 ^ 32) (ahead number rest)

-- the edits of a script, and what stands behind it
abbrev pub read_of : List ℕ → EdScript → List PlainEdit × Ahead
read_of text s = (edits_of text s.edits.items, ahead s.next (lines (drop s.span.end text)))

-- these edits, and this rest behind them, whose first line has this number
abbrev pub these : List PlainEdit → ℕ → List (List ℕ) → Result (List PlainEdit × Ahead) Fault
these es next rest = Ok (es, ahead next rest)
