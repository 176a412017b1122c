-- A part of a file with its edits made, and what was written of it.
use Rattle.std.specs.Prelude.{ℕ, ◌+◌, ◌-◌, ℤ, List, ◌++◌, reverse, Bool, if◌then◌else◌}
use Rattle.std.specs.List.{prefix_len}
use Rattle.outside.specs.SinkView.{SinkView, ReceivesPart}
use Rattle.hunk_core.specs.declared.Side.{Side}
use Rattle.hunk_core.specs.declared.HunkLine.{HunkLine}
use Rattle.hunk_core.specs.declared.Mark.{Mark}
use Rattle.hunk_core.specs.declared.Hunk.{Hunk}
use Rattle.hunk_core.specs.PlainHunk.{PlainHunk, bytes_at}
use Rattle.hunk_core.specs.Sides.{is_on_side, taken_count}
use Rattle.hunk_core.specs.Turned.{is_keep, taken_mark}
use Rattle.hunk_place.specs.Taken.{taken}
use Rattle.hunk_place.specs.Verdicts.{spot, after_hunk}
use Rattle.hunk_place.specs.declared.PlaceState.{PlaceState}
use Rattle.hunk_apply.specs.declared.put.Tail.{Tail}
use Rattle.hunk_apply.specs.Moved.{moved_state}
use Rattle.hunk_apply.specs.Splice.{Edit, marked_edits, body_edits, hunk_edits, spliced_from, AreFrom}
use Rattle.hunk_apply.specs.Written.{Wrote, join_behind}

-- a file from one line up to, not including, another one, and its edits in front of those behind it
pub record Passage : Type 0 where
  pub first : ℕ
  pub next : ℕ
  pub edits : List Edit → List Edit

-- the sink received what the edits make of a passage, whatever edits are made behind it
abbrev pub WrotePassage : SinkView → SinkView → Tail → Tail → List (List ℕ) → Passage → Type 0
WrotePassage old new was now lines p = (later : List Edit) → AreFrom p.next later → Wrote old new was now (spliced_from lines (p.edits later) p.first) (spliced_from lines later p.next)

-- the sink received a first part of that and of what follows, or its content isn't told any more
abbrev pub BrokeOffIn : SinkView → SinkView → Tail → List (List ℕ) → Passage → Type 0
BrokeOffIn old new was lines p = (later : List Edit) → AreFrom p.next later → ReceivesPart old new (join_behind was.is_open (spliced_from lines (p.edits later) p.first))

-- how many old lines a line with this mark is
abbrev pub width : Side → Mark → ℕ
width side mark = if is_on_side side mark then 1 else 0

-- one line of a body; the next old line is line q
abbrev pub line_passage : List ℕ → Side → HunkLine → ℕ → Passage
line_passage text side line q = record {
  first = q;
  next = q + width side line.mark;
  edits = λ later. marked_edits (taken_mark side line.mark) q (bytes_at text line.span) (λ _. later);
}

-- how many lines of context a hunk ends with
abbrev pub post_count : Hunk → ℕ
post_count h = prefix_len (λ l. is_keep l.mark) (reverse h.body.items)

-- the body of a hunk whose old lines stand from line `at` on, but for its trailing context
abbrev pub body_passage : List ℕ → Side → Hunk → ℕ → Passage
body_passage text side h at = record {
  first = at;
  next = at + taken_count side h.body.items - post_count h;
  edits = λ later. body_edits at (taken text side h).body ++ later;
}

-- what stands in front of a hunk that is placed at a line, behind what was consumed, and its body
abbrev pub placed_passage : PlainHunk → PlaceState → ℕ → ℤ → Passage
placed_passage h state line offset = record {
  first = state.consumed + 1;
  next = (moved_state h state line offset).consumed + 1;
  edits = λ later. body_edits line h.body ++ later;
}

-- the same of a hunk where it has its place in these lines; nothing where it has none
abbrev pub hunk_passage : List (List ℕ) → ℕ → Bool → PlainHunk → PlaceState → Passage
hunk_passage lines fuzz loose h state = record {
  first = state.consumed + 1;
  next = (after_hunk h state (spot lines fuzz loose h state)).consumed + 1;
  edits = λ later. hunk_edits (spot lines fuzz loose h state) h ++ later;
}
