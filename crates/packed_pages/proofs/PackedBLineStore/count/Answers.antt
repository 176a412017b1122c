use Rattle.packed_pages.specs.Layout.{decoded-count}
use Rattle.packed_pages.proofs.PackedBLineStore.count.Goals as goal

pub returns-clause-told : goal.returns-clause-told
returns-clause-told g c lines told = record { told = told; count = decoded-count c.args.self.now.layout (g.C.Scratch.view c.args.self.now.scratch).told lines told }
