use Rattle.page_pair.proofs.Halves.{page-stays, size-stays}
use Rattle.page_pair.proofs.PagePair.copy_across.Goals as goal

pub returns-clause-size : goal.returns-clause-size
returns-clause-size c = size-stays c.args.self.now c.args.half _

pub returns-clause-same : goal.returns-clause-same
returns-clause-same c = page-stays c.args.self.now c.args.half _
