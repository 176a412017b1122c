use Rattle.std.proofs.Common.{◌≡◌}
use Rattle.ifdef_out.specs.Places.{edits_left, way_of, row_total}
use Rattle.ifdef_out.proofs.found.next_edit.Given as goal

abbrev pub invariant-loop-next : goal.invariant-loop-next
invariant-loop-next l = edits_left l.edits l.fn.place ≡ edits_left l.edits l.at

abbrev pub decreases-loop-next : goal.decreases-loop-next
decreases-loop-next l = way_of (row_total l.edits.change.now) l.at
