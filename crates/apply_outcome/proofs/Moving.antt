-- Effects behind a look at the tree.
use Rattle.std.proofs.Common.{◌≡◌, ℕ, Bool, true, false, ◌+◌, ◌≤◌, if◌then◌else◌, Result, Ok, Err, OnOk, arith}
use Rattle.outside.specs.TreeView.{TreeView, Passes}
use Rattle.outside.specs.Calls.{IsUntouched}
use Rattle.apply_task.specs.declared.fault.RunFault.{RunFault}
use Rattle.apply_task.specs.Making.{IsTidy}
pub use Rattle.apply_task.proofs.Making.{goes_both, goes_value, goes_fault, goes_after, makes_after, makes_none, works_made}
use Rattle.apply_task.proofs.Tidy.{tidy_both, untouched_tidy}

-- calls behind the look, since before it
pub tidy_after : {R : Type 0} {u v w : TreeView} → IsUntouched u v → (r : Result R RunFault) → Passes v w → OnOk r (IsTidy v w) → OnOk r (IsTidy u w)
tidy_after {u = u} {v = v} {w = w} same (Ok x) passes tidy = tidy_both u v w same.passes (untouched_tidy same) tidy
tidy_after same (Err e) passes tidy = tt

pub five_most : (rejected : Bool) (all made : ℕ) → all ≡ made + (if rejected then 1 else 0) → made ≤ 4 → all ≤ 5
five_most true all made is few = omega arith
five_most false all made is few = omega arith

pub kept_few : (due : Bool) (n : ℕ) → n ≡ (if due then 1 else 0) → n ≤ 4
kept_few true n is = omega arith
kept_few false n is = omega arith

pub two_four : (n : ℕ) → n ≤ 2 → n ≤ 4
two_four n few = omega arith
