use Rattle.std.proofs.Common.{◌-◌, length}
use Rattle.read_clean_text.proofs.Indenting.{HasPut}
use Rattle.read_clean_text.proofs.indents.without_indent.Given as goal

abbrev pub invariant-lines : goal.invariant-lines
invariant-lines l = HasPut l.indent l.text l.out.items l.at

abbrev pub decreases-lines : goal.decreases-lines
decreases-lines l = length l.text - l.at
