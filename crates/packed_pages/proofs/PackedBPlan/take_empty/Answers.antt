use Rattle.std.proofs.Common.{◌∙◌}
use Rattle.packed_pages.proofs.HeldLemmas.{empty-seen, empty-held}
use Rattle.packed_pages.proofs.PackedBPlan.take_empty.Goals as goal

pub returns-clause-empty : goal.returns-clause-empty
returns-clause-empty g c = empty-seen c.new-self.result c.new-self-2.result (g.C.Scratch.view c.args.self.now.scratch) c.new-self.ensures.count

pub invariant_of-self : goal.invariant_of-self
invariant_of-self g c = record { held = empty-held c.args.self.now.pair c.new-self.result c.new-self-2.result (g.C.Scratch.view c.args.self.now.scratch) c.new-self.ensures.is (c.new-self.ensures.size ∙ c.size.ensures.size) c.new-self.ensures.count c.new-self-2.ensures; marked = c.args.self.now.marked }
