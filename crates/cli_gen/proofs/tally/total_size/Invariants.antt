use Rattle.std.proofs.Common.{◌≡◌, take, Some}
use Rattle.std.specs.List.{sum_by}
use Rattle.outside.specs.Files.{Files}
use Rattle.outside.specs.Calls.{IsUntouched}
use Rattle.cli_gen.specs.Summary.{capped}
use Rattle.cli_gen.proofs.Sizes.{size_of}
use Rattle.cli_gen.proofs.tally.total_size.Given as goal

abbrev pub invariant-loop-k : goal.invariant-loop-k
invariant-loop-k g l = record {
  untouched : IsUntouched (g.T.Tree.view l.fn.tree) (g.T.Tree.view l.tree);
  size : (f : Files) → (g.T.Tree.view l.fn.tree).told ≡ Some f → l.total ≡ capped (sum_by (size_of f) (take l.k l.places));
}
