use Rattle.std.proofs.Common.{◌≡◌, take}
use Rattle.std.specs.List.{fold}
use Rattle.stack_patch.specs.Gathering.{gathered, with_target}
use Rattle.stack_patch.proofs.names.add_patch.Given as goal

-- the targets so far
abbrev pub invariant-loop-target : goal.invariant-loop-target
invariant-loop-target l = gathered l.saved ≡ fold (with_target l.fn.patch.header.opening) (gathered l.fn.saved) (take l.target-index l.target-items)
