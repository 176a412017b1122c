use Rattle.stamp.proofs.Signed.{day-bounds}
use Rattle.stamp.proofs.named.Goals as goal

pub seconds_from-requires-clause-clocks : goal.seconds_from-requires-clause-clocks
seconds_from-requires-clause-clocks c = c.in_ok-clock.ensures.bound

pub seconds_from-requires-clause-days : goal.seconds_from-requires-clause-days
seconds_from-requires-clause-days c = day-bounds c.in_ok-day.day c.in_ok-day.ensures.bound
