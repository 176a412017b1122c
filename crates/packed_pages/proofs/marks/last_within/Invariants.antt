use Rattle.std.proofs.Common.{ℕ, List, length}
use Rattle.std.specs.List.{All}
use Rattle.packed_pages.specs.Marks.{IsMark}
use Rattle.packed_pages.proofs.marks.last_within.Given as goal

abbrev pub invariant-loop-mark : goal.invariant-loop-mark
invariant-loop-mark l = (page : List ℕ) → All (IsMark page) l.initial.marks.items → All (IsMark page) l.marks.items

abbrev pub decreases-loop-mark : goal.decreases-loop-mark
decreases-loop-mark l = length l.marks.items
