use Rattle.std.proofs.Common.{◌≡◌, take}
use Rattle.read_git_order.specs.Moving.{pieces_in}
use Rattle.read_git_order.proofs.pieces.pieces_of.Given as goal

abbrev pub invariant-loop-patch : goal.invariant-loop-patch
invariant-loop-patch l = l.pieces.items ≡ pieces_in l.text l.reverse (take l.patch-index l.patches)
