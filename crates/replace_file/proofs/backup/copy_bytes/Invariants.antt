use Rattle.std.proofs.Common.{◌≡◌, ◌-◌}
use Rattle.replace_file.specs.Copies.{HasCopied}
use Rattle.replace_file.proofs.backup.copy_bytes.Given as goal

abbrev pub invariant-pieces : goal.invariant-pieces
invariant-pieces g l = (l.begun.name.now ≡ l.fn.begun.name.now) × HasCopied (g.T.Tree.view l.fn.tree) (g.T.Tree.view l.tree) l.fn.begun.name.now l.from l.at l.size

abbrev pub decreases-pieces : goal.decreases-pieces
decreases-pieces g l = l.size - l.at
