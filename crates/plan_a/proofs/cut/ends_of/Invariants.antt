use Rattle.std.proofs.Common.{◌-◌, length}
use Rattle.line_list.specs.Feeds.{AreFeeds}
use Rattle.line_list.specs.Lines.{lines}
use Rattle.plan_a.specs.Places.{places_of, Takes}
use Rattle.plan_a.proofs.Reading.{IsCutSo}
use Rattle.plan_a.proofs.FirstLong.{NoneLong}
use Rattle.plan_a.proofs.cut.ends_of.Given as goal

abbrev pub invariant-loop-end : goal.invariant-loop-end
invariant-loop-end l = record {
  feeds : AreFeeds l.text l.feeds;
  cut : IsCutSo l.text (places_of l.ends) l.at;
  none : NoneLong l.size (lines l.text) (length (places_of l.ends));
  takes : Takes l.ends (length l.text);
}

abbrev pub decreases-loop-end : goal.decreases-loop-end
decreases-loop-end l = length l.text - l.at
