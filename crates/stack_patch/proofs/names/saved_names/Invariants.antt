use Rattle.std.proofs.Common.{◌≡◌, take}
use Rattle.std.specs.List.{fold}
use Rattle.stack_patch.specs.Gathering.{gathered, nothing, with_patch}
use Rattle.stack_patch.proofs.names.saved_names.Given as goal

-- the targets of the file patches so far
abbrev pub invariant-loop-patch : goal.invariant-loop-patch
invariant-loop-patch l = gathered l.saved ≡ fold with_patch nothing (take l.patch-index l.patch-items)
