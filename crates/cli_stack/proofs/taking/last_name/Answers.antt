use Rattle.std.proofs.Common.{◌≡◌, ◌-◌, suc, arith}
use Rattle.cli_stack.proofs.Popped.{stands_before}
use Rattle.cli_stack.proofs.taking.last_name.Goals as goal

pub returns : goal.returns
returns c =
    let n = c.args.stack.now.applied in
    let some : n ≡ suc (n - 1) = omega (arith, c.requires.some) in
    stands_before c.args.stack.now.patches.items (n - 1) n c.index.result.now some (omega (arith, some, c.requires.applied)) c.index.ensures
