use Rattle.std.proofs.Common.{◌-◌, length, None}
use Rattle.split_recount.specs.Bodies.{misplaced}
use Rattle.split_recount.specs.Measured.{body_at}
use Rattle.split_recount.proofs.Misplaced.{Searches}
use Rattle.split_recount.proofs.body.first_misplaced.Given as goal

abbrev pub invariant-lines : goal.invariant-lines
invariant-lines l = Searches l.text (misplaced None l.fn.number (body_at l.text l.fn.at)) l.at l.number l.before l.left

abbrev pub decreases-lines : goal.decreases-lines
decreases-lines l = length l.text - l.at
