use Rattle.std.proofs.Common.{◌-◌, length, drop}
use Rattle.line_list.specs.Lines.{lines}
use Rattle.hunk_core.specs.Reading.{IsPlace}
use Rattle.hunk_core.specs.Following.{reading_by}
use Rattle.hunk_core.proofs.Following.{TakenSoFar}
use Rattle.hunk_core.proofs.walking.walk.Given as goal

abbrev pub invariant-hunks : goal.invariant-hunks
invariant-hunks g l = record {
  ready : g.W.HunkWalk.IsReady l.text l.kept;
  place : IsPlace l.text l.place;
  so_far : TakenSoFar g.W.HunkWalk.begins g.W.HunkWalk.hunk_at g.W.HunkWalk.Has l.text l.at l.fn.kept l.kept l.least l.place (reading_by g.W.HunkWalk.begins g.W.HunkWalk.hunk_at l.line (lines (drop l.at l.text)));
}

abbrev pub decreases-hunks : goal.decreases-hunks
decreases-hunks g l = length l.text - l.place.at
