use Rattle.std.proofs.Common.{length, ap, arith}
use Rattle.patch_set.proofs.Completing.{completed-length}
use Rattle.read_clean_text.proofs.indents.whole_bare.Goals as goal

pub returns-clause-short : goal.returns-clause-short
returns-clause-short c = omega (arith, completed-length c.in_ok-bare.bare.items, ap length c.in_ok-whole.ensures.whole, c.in_ok-bare.ensures.length, c.requires)
