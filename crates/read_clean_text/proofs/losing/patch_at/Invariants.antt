use Rattle.std.proofs.Common.{◌-◌, length}
use Rattle.read_clean_text.proofs.Finding.{IsPast}
use Rattle.read_clean_text.proofs.losing.patch_at.Given as goal

abbrev pub invariant-patches : goal.invariant-patches
invariant-patches l = IsPast l.patches l.first l.next l.at

abbrev pub decreases-patches : goal.decreases-patches
decreases-patches l = length l.patches - l.next
