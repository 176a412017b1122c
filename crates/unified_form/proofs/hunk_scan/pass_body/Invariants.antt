use Rattle.std.proofs.Common.{◌+◌, ◌≤◌}
use Rattle.line_list.specs.Feeds.{AreFeeds}
use Rattle.hunk_core.specs.Reading.{IsPlace, ahead_of}
use Rattle.unified_form.specs.Skimmed.{past_body}
use Rattle.unified_form.proofs.Skimming.{BodyPast}
use Rattle.unified_form.proofs.hunk_scan.pass_body.Given as goal

abbrev pub invariant-loop-left : goal.invariant-loop-left
invariant-loop-left l = record {
  feeds : AreFeeds l.text l.feeds;
  place : IsPlace l.text l.place;
  later : l.fn.place.at ≤ l.place.at;
  so_far : BodyPast l.left (ahead_of l.text l.place) (past_body (l.fn.left.old + l.fn.left.new) l.fn.left (ahead_of l.text l.fn.place));
}

abbrev pub decreases-loop-left : goal.decreases-loop-left
decreases-loop-left l = l.left.old + l.left.new
