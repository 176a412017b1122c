use Rattle.std.proofs.Common.{◌-◌, length}
use Rattle.read_clean_text.proofs.Indenting.{HasSought}
use Rattle.read_clean_text.proofs.indents.indent_of.Given as goal

abbrev pub invariant-lines : goal.invariant-lines
invariant-lines l = HasSought l.text l.at

abbrev pub decreases-lines : goal.decreases-lines
decreases-lines l = length l.text - l.at
