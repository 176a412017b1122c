use Rattle.std.proofs.Common.{◌-◌, length}
use Rattle.filter_style.proofs.Lined.{HasPassed}
use Rattle.filter_style.proofs.fronts.names_behind.Given as goal

abbrev pub invariant-lines : goal.invariant-lines
invariant-lines l = HasPassed l.form l.any l.text l.at

abbrev pub decreases-lines : goal.decreases-lines
decreases-lines l = length l.text - l.at
