use Rattle.std.proofs.Common.{◌-◌, length}
use Rattle.patch_header.specs.Scanning.{HasScanned}
use Rattle.patch_header.proofs.bare.extended_from.Given as goal

abbrev pub invariant-lines : goal.invariant-lines
invariant-lines l = HasScanned l.text l.at l.number l.here

abbrev pub decreases-lines : goal.decreases-lines
decreases-lines l = length l.text - l.here.end
