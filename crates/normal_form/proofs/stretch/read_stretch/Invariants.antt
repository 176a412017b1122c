use Rattle.std.proofs.Common.{◌+◌, ◌≤◌, ◌≡◌, length}
use Rattle.std.specs.Prelude.{All}
use Rattle.hunk_core.specs.PlainHunk.{body_of}
use Rattle.hunk_core.specs.Turned.{LiesIn}
use Rattle.hunk_core.specs.Reading.{IsPlace, ahead_of}
use Rattle.normal_form.specs.Stretches.{stretch_at}
use Rattle.normal_form.proofs.stretch.read_stretch.Given as goal

abbrev pub invariant-loop-left : goal.invariant-loop-left
invariant-loop-left l = record {
  place : IsPlace l.text l.place;
  later : l.fn.place.at ≤ l.place.at;
  few : l.fn.place.at + length l.lines.items ≤ l.place.at + length l.fn.before.items;
  lies : All (λ x. LiesIn l.text x.span) l.lines.items;
  same : stretch_at l.side l.left (body_of l.text l.lines.items) (ahead_of l.text l.place) ≡ stretch_at l.side l.count (body_of l.text l.fn.before.items) (ahead_of l.text l.fn.place);
}

abbrev pub decreases-loop-left : goal.decreases-loop-left
decreases-loop-left l = l.left
