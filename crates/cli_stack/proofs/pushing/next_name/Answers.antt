use Rattle.std.proofs.Common.{suc, refl}
use Rattle.cli_stack.proofs.Popped.{stands_before}
use Rattle.cli_stack.proofs.pushing.next_name.Goals as goal

pub returns : goal.returns
returns c = let n = c.args.stack.now.applied in stands_before c.args.stack.now.patches.items n (suc n) c.index.result.now refl c.requires c.index.ensures
