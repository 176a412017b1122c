use Rattle.std.proofs.Common.{drop}
use Rattle.patch_cli.proofs.Outside.{AreLeft}
use Rattle.patch_cli.proofs.damaged.has_damaged.Given as goal

-- nothing so far tells one
abbrev pub invariant-loop-k : goal.invariant-loop-k
invariant-loop-k l = AreLeft l.text l.at l.patches (drop l.k l.patches)
