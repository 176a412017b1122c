use Rattle.std.proofs.Common.{◌+◌, ap, arith}
use Rattle.packed_pages.proofs.Steps.{reaches-next}
use Rattle.packed_pages.proofs.stepping.reach_from.Goals as goal

pub returns-then-is_whole : goal.returns-then-is_whole
returns-then-is_whole c = reaches-next c.args.page.now c.args.place.now c.args.k _ c.requires.whole (omega arith) (omega arith) (ap (λ n. c.args.place.now.at + 4 + n) c.stated_length.ensures) (c.is_whole.ensures.0 c.if-is_whole.true)
