use Rattle.format_convert.proofs.Bounds.{start-some}
use Rattle.format_convert.proofs.numbers.range_start.Goals as goal

pub returns-else-count-eq0 : goal.returns-else-count-eq0
returns-else-count-eq0 c = start-some c.args.first c.args.count c.if-count-eq0.false
