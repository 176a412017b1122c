use Rattle.std.proofs.Common.{take, length}
use Rattle.std.specs.List.{slice_split}
use Rattle.series_stack.specs.Series.{is_feed}
use Rattle.series_stack.proofs.Listing.{SoFar}
use Rattle.series_stack.proofs.series.read_series.Given as goal

-- the names so far are those of the lines so far
abbrev pub invariant-loop-line : goal.invariant-loop-line
invariant-loop-line l = SoFar l.names.items (take (length l.yielded) (slice_split is_feed l.text))
