use Rattle.std.proofs.Common.{◌≡◌, take}
use Rattle.filter_whole_text.specs.PartNames.{flat}
use Rattle.filter_whole_text.proofs.naming.flat.Given as goal

abbrev pub invariant-loop-at : goal.invariant-loop-at
invariant-loop-at l = l.text.items ≡ flat (take l.at l.name)
