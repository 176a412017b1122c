use Rattle.std.proofs.Common.{◌+◌, ◌≤◌, length}
use Rattle.std.specs.Prelude.{All}
use Rattle.hunk_core.specs.PlainHunk.{body_of}
use Rattle.hunk_core.specs.Turned.{LiesIn}
use Rattle.line_list.specs.Feeds.{AreFeeds}
use Rattle.hunk_core.specs.Reading.{IsPlace, ahead_of}
use Rattle.unified_form.specs.Bodies.{body_at}
use Rattle.unified_form.proofs.Loops.{BodySoFar}
use Rattle.unified_form.proofs.body.fill_body.Given as goal

abbrev pub invariant-loop-left : goal.invariant-loop-left
invariant-loop-left l = record {
  feeds : AreFeeds l.text l.feeds;
  place : IsPlace l.text l.place;
  later : l.fn.place.at ≤ l.place.at;
  few : l.fn.place.at + length l.lines.items ≤ l.place.at;
  lies : All (λ x. LiesIn l.text x.span) l.lines.items;
  so_far : BodySoFar (body_of l.text l.lines.items) l.left (ahead_of l.text l.place) (body_at (l.fn.left.old + l.fn.left.new) l.fn.left (ahead_of l.text l.fn.place));
}

abbrev pub decreases-loop-left : goal.decreases-loop-left
decreases-loop-left l = l.left.old + l.left.new
