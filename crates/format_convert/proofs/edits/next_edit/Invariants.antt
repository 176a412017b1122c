use Rattle.std.proofs.Common.{◌≡◌, length}
use Rattle.format_convert.specs.Walk.{edits_left, way_of}
use Rattle.format_convert.proofs.edits.next_edit.Given as goal

abbrev pub invariant-loop-next : goal.invariant-loop-next
invariant-loop-next l = edits_left l.kept l.fn.place ≡ edits_left l.kept l.at

abbrev pub decreases-loop-next : goal.decreases-loop-next
decreases-loop-next l = way_of (length l.kept.hunks.now) l.at
