use Rattle.std.proofs.Common.{◌≡◌, ◌≤◌, ◌-◌, ℕ, drop, length}
use Rattle.split_recount.specs.Parts.{rows_of}
use Rattle.filter_whole_text.specs.PartNames.{first_name}
use Rattle.filter_whole_text.proofs.naming.first_from.Given as goal

abbrev pub invariant-loop-patch : goal.invariant-loop-patch
invariant-loop-patch l = (at : ℕ) → l.place ≤ at → first_name (drop l.patch (rows_of l.set)) at ≡ first_name (drop l.from (rows_of l.set)) at

abbrev pub decreases-loop-patch : goal.decreases-loop-patch
decreases-loop-patch l = length l.set.patches - l.patch
