use Rattle.std.proofs.Common.{◌≡◌, drop}
use Rattle.flip_patch.specs.Refusals.{told_unfit}
use Rattle.flip_patch.proofs.Refused.{first_line}
use Rattle.flip_patch.proofs.refusals.first_unfit.Given as goal

-- it isn't one of the file patches so far
abbrev pub invariant-loop-i : goal.invariant-loop-i
invariant-loop-i l = first_line told_unfit (drop l.i l.patches) ≡ first_line told_unfit l.patches
