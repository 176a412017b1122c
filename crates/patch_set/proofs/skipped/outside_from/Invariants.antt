use Rattle.std.proofs.Common.{◌-◌, length}
use Rattle.patch_set.proofs.Skipping.{IsPast}
use Rattle.patch_set.proofs.skipped.outside_from.Given as goal

abbrev pub invariant-regions : goal.invariant-regions
invariant-regions l = IsPast l.patches l.first l.next l.at

abbrev pub decreases-regions : goal.decreases-regions
decreases-regions l = length l.patches - l.next
