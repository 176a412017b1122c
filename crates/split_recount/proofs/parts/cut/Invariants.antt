use Rattle.std.proofs.Common.{drop}
use Rattle.split_recount.specs.Parts.{rows_of}
use Rattle.split_recount.specs.Splitting.{Ahead}
use Rattle.split_recount.proofs.Cutting.{all_parts}
use Rattle.split_recount.proofs.parts.cut.Given as goal

abbrev pub invariant-loop-patch : goal.invariant-loop-patch
invariant-loop-patch l = Ahead l.every l.end (all_parts l.every l.end (rows_of l.set)) (drop l.patch (rows_of l.set)) l.part l.parts.items
