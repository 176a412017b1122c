use Rattle.std.proofs.Common.{[], length}
use Rattle.std.specs.List.{range_with_len}
use Rattle.read_git_order.proofs.Whole.{batches-whole}
use Rattle.read_git_order.proofs.laws.orders_are_whole.Goals as goal

pub returns : goal.returns
returns c = λ text reverse ps. batches-whole text reverse ps (range_with_len 0 (length ps)) []
