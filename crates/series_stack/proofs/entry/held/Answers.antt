use Rattle.std.proofs.Common.{arith, sym}
use Rattle.series_stack.proofs.Fronts.{number-sound}
use Rattle.series_stack.proofs.entry.held.Goals as goal

pub overflow_cast-count : goal.overflow_cast-count
overflow_cast-count c = omega (arith, (number-sound c.args.text.now (c.in_ok-count.count, c.in_ok-count.rest.now) (sym c.in_ok-count.ensures)).1)
