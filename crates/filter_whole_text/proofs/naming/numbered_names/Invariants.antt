use Rattle.std.proofs.Common.{◌≡◌}
use Rattle.filter_whole_text.specs.PartNames.{numbered_names}
use Rattle.filter_whole_text.proofs.naming.numbered_names.Given as goal

abbrev pub invariant-loop-index : goal.invariant-loop-index
invariant-loop-index l = l.names.items ≡ numbered_names l.file l.index
