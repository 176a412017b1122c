use Rattle.std.proofs.Common.{◌≡◌, length, is_some}
use Rattle.series_stack.specs.Saves.{entries_of}
use Rattle.series_stack.proofs.save.check_save.Given as goal

-- the text is a save where what is left is one
abbrev pub invariant-loop-rest : goal.invariant-loop-rest
invariant-loop-rest l = is_some (entries_of l.text) ≡ is_some (entries_of l.rest)

abbrev pub decreases-loop-rest : goal.decreases-loop-rest
decreases-loop-rest l = length l.rest
