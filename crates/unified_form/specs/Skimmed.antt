-- Hunks that follow each other, of which only the first is kept: what is ahead behind the others, without their lines.
use Rattle.std.specs.Prelude.{◌≡◌, ℕ, zero, suc, ◌+◌, ◌<◌, ◌==◌, List, [], ◌∷◌, ◌++◌, drop, slice_range, length, map, Bool, true, false, Option, Some, None, is_some, Result, Ok, Err, if◌then◌else◌}
use Rattle.line_list.specs.Lines.{lines}
use Rattle.hunk_core.specs.declared.Mark.{Mark}
use Rattle.hunk_core.specs.declared.BadKind.TheVariants as kinds
use Rattle.hunk_core.specs.declared.fault.Place.{Place}
use Rattle.hunk_core.specs.PlainHunk.{PlainHunk, hunk_of, old_lines}
use Rattle.hunk_core.specs.declared.Hunk.{Hunk}
use Rattle.hunk_core.specs.Pieces.{SpansSoFar, SpellInTurn}
use Rattle.hunk_core.specs.Turned.{IsLawful}
use Rattle.line_list.specs.declared.Span.{Span}
use Rattle.hunk_core.specs.LineTests.{after_backslash}
use Rattle.hunk_core.specs.Reading.{Fault, fault, ◌>>=◌, Ahead, ahead, ahead_of}
use Rattle.unified_form.specs.declared.body.Left.{Left}
use Rattle.unified_form.specs.declared.range.Ranges.{Ranges}
use Rattle.unified_form.specs.declared.rows.HunkRows.{HunkRows}
use Rattle.unified_form.specs.declared.hunk_scan.OldRange.{OldRange}
use Rattle.unified_form.specs.declared.hunk_scan.HunkScan.{HunkScan}
use Rattle.unified_form.specs.Ranges.{opening}
use Rattle.unified_form.specs.Bodies.{is_last_line, marked_at, room_at}
use Rattle.unified_form.specs.Grammar.{IsPiece, SpellsHunk}
use Rattle.unified_form.specs.Hunks.{at_line, left_of, hunk_at, reading}

-- what is left behind a line with this left, and what is ahead, where a backslash line may follow
abbrev pub past_ended : ℕ → Mark → Left → List (List ℕ) → Option (List (List ℕ)) → Result (Left × Ahead) Fault
past_ended number mark left rest None = Ok (left, ahead (number + 1) rest)
past_ended number mark left rest (Some more) = if is_last_line mark left then Ok (left, ahead (number + 2) more) else Err (fault (number + 1) kinds.MisplacedBackslash)

-- what is left behind the first of these lines as a line of a body with this left, and what is ahead
unfoldable pub past_first_line : Left → ℕ → List (List ℕ) → Result (Left × Ahead) Fault
past_first_line left number [] = Err (fault number kinds.ShortEnd)
past_first_line left number (line ∷ rest) = do
  m ← marked_at number line
  room ← room_at number m.mark left
  past_ended number m.mark room rest (after_backslash rest)

abbrev pub past_line : Left → Ahead → Result (Left × Ahead) Fault
past_line left p = past_first_line left p.number p.rest

-- what is ahead behind a body with at most this many lines, and with these counts
unfoldable pub past_body : ℕ → Left → Ahead → Result Ahead Fault
past_body zero left p = Ok p
past_body (suc most) left p = if left.old + left.new == 0 then Ok p else (past_line left p >>= λ first. past_body most first.0 first.1)

-- the old lines that a hunk is about, and those that a range line states
abbrev pub old_range : PlainHunk → OldRange
old_range h = record { start = h.old_start; count = length (old_lines h.body) }

abbrev pub stated_range : Ranges → OldRange
stated_range r = record { start = r.old_start; count = r.old_count }

-- no backslash line stands behind a hunk with these ranges
abbrev pub past_settled : Ranges → Ahead → Result (OldRange × Ahead) Fault
past_settled r p = if is_some (after_backslash p.rest) then Err (fault p.number kinds.MisplacedBackslash) else Ok (stated_range r, p)

-- the old lines of a hunk whose range line is the first of these lines, and what is ahead behind it
unfoldable pub past_first : ℕ → ℕ → List (List ℕ) → Result (OldRange × Ahead) Fault
past_first least number [] = Err (fault number kinds.ShortEnd)
past_first least number (line ∷ rest) = do
  r ← at_line number (opening least line)
  behind ← past_body (r.old_count + r.new_count) (left_of r) (ahead (number + 1) rest)
  past_settled r behind

-- the same of a hunk that starts at least
abbrev pub past_hunk : ℕ → Ahead → Result (OldRange × Ahead) Fault
past_hunk least p = past_first least p.number p.rest

-- there is a hunk
abbrev pub are_some : List PlainHunk → Bool
are_some [] = false
are_some (h ∷ hs) = true

-- the first of the hunks from a place up to another is kept, and whether there are others; or there is none yet
abbrev pub HasFirst : List ℕ → ℕ → List PlainHunk → ℕ → Bool → Hunk → Bool → Type 0
HasFirst text from [] end none first more = (none ≡ true) × (more ≡ false) × (from ≡ end)
HasFirst text from (h ∷ hs) end none first more = (none ≡ false) × (h ≡ hunk_of text first) × (more ≡ are_some hs) × IsLawful text first × (from < end)

-- the first of the hunks that these lines begin with, whether there are others, and the place behind them all
pub record IsSkimmed (text : List ℕ) (number : ℕ) (rest : List (List ℕ)) (s : HunkScan) : Type 0 where
  pub others : List PlainHunk
  pub more : s.more ≡ are_some others
  pub read : reading number rest ≡ Ok (hunk_of text s.first ∷ others, ahead s.next (lines (drop s.end text)))
  pub piece : IsPiece number rest (hunk_of text s.first ∷ others) s.next (lines (drop s.end text))

-- the old lines of the hunk from a place up to another, behind one that starts at least
pub record IsRow (text : List ℕ) (least : ℕ) (place : Place) (old : OldRange) (next : Place) : Type 0 where
  pub hunk : PlainHunk
  pub is : old ≡ old_range hunk
  pub read : hunk_at least (ahead_of text place) ≡ Ok (hunk, ahead_of text next)
  pub whole : lines (drop place.at text) ≡ lines (slice_range text place.at next.at) ++ lines (drop next.at text)
  pub piece : SpellsHunk least (lines (slice_range text place.at next.at)) hunk

-- the pieces and the old lines of all hunks that these lines begin with, and the place behind them
pub record AreRows (text : List ℕ) (number : ℕ) (rest : List (List ℕ)) (r : HunkRows) : Type 0 where
  pub hunks : List PlainHunk
  pub olds : r.olds.items ≡ map old_range hunks
  pub pieces : SpellInTurn SpellsHunk text 0 r.spans.items hunks
  pub read : reading number rest ≡ Ok (hunks, ahead r.next (lines (drop r.end text)))
  pub piece : IsPiece number rest hunks r.next (lines (drop r.end text))

-- the pieces and the old lines of hunks from a place up to another, the last of which starts so
pub record HasRows (text : List ℕ) (from : ℕ) (hs : List PlainHunk) (end least : ℕ) (olds : List OldRange) (spans : List Span) : Type 0 where
  pub olds_are : olds ≡ map old_range hs
  pub pieces : SpansSoFar SpellsHunk text from spans hs end least
