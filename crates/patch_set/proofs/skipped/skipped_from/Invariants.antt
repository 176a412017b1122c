use Rattle.std.proofs.Common.{◌-◌, length}
use Rattle.std.specs.Option.{option_copied}
use Rattle.patch_set.proofs.Skipping.{HasLooked}
use Rattle.patch_set.proofs.skipped.skipped_from.Given as goal

abbrev pub invariant-lines : goal.invariant-lines
invariant-lines l = HasLooked l.text l.patches l.found.items l.here.at l.here.number l.here.next (option_copied l.names)

abbrev pub decreases-lines : goal.decreases-lines
decreases-lines l = length l.text - l.here.at
