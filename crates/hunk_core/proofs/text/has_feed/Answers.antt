use Rattle.std.proofs.Common.{◌<◌, length, arith}
use Rattle.hunk_core.proofs.TextLemmas.{ends-last}
use Rattle.hunk_core.proofs.text.has_feed.Goals as goal

pub returns-in_default : goal.returns-in_default
returns-in_default c = let some : 0 < length c.args.line.now = omega arith in ends-last c.args.line.now some
