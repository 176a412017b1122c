use Rattle.std.proofs.Common.{◌-◌, length}
use Rattle.filter_style.proofs.Lined.{HasLines}
use Rattle.filter_style.proofs.hunks.put_lines.Given as goal

abbrev pub invariant-lines : goal.invariant-lines
invariant-lines l = HasLines l.clean l.note l.form l.text l.fn.out.items l.out.items l.at

abbrev pub decreases-lines : goal.decreases-lines
decreases-lines l = length l.text - l.at
