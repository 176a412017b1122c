use Rattle.std.proofs.Common.{◌≡◌, drop}
use Rattle.flip_patch.proofs.Refused.{falls_behind, starts_in}
use Rattle.flip_patch.proofs.refusals.starts_fall.Given as goal

-- what is left falls where the whole does
abbrev pub invariant-loop-i : goal.invariant-loop-i
invariant-loop-i l = falls_behind l.last (drop l.i (starts_in l.hunks)) ≡ falls_behind 0 (starts_in l.hunks)
