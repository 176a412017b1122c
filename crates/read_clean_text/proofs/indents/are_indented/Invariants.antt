use Rattle.std.proofs.Common.{◌-◌, length}
use Rattle.read_clean_text.proofs.Indenting.{HasLooked}
use Rattle.read_clean_text.proofs.indents.are_indented.Given as goal

abbrev pub invariant-lines : goal.invariant-lines
invariant-lines l = HasLooked l.indent l.text l.patches l.here.from l.here.at l.here.next l.here.before

abbrev pub decreases-lines : goal.decreases-lines
decreases-lines l = length l.text - l.here.from
