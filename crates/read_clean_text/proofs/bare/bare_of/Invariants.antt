use Rattle.std.proofs.Common.{◌-◌, length}
use Rattle.read_clean_text.proofs.Bared.{HasBared}
use Rattle.read_clean_text.proofs.bare.bare_of.Given as goal

abbrev pub invariant-lines : goal.invariant-lines
invariant-lines l = HasBared l.text l.out.items l.returns.items l.at

abbrev pub decreases-lines : goal.decreases-lines
decreases-lines l = length l.text - l.at
