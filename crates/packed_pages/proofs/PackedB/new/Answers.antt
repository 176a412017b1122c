use Rattle.std.proofs.Common.{◌∙◌}
use Rattle.packed_pages.proofs.HeldLemmas.{empty-seen, empty-held}
use Rattle.packed_pages.proofs.PackedB.new.Goals as goal

pub returns-clause-empty : goal.returns-clause-empty
returns-clause-empty g c = empty-seen c.new-layout.result c.new.result (g.C.Scratch.view c.args.scratch) c.new-layout.ensures.count

pub invariant_of-result : goal.invariant_of-result
invariant_of-result g c = record { held = empty-held c.args.pair c.new-layout.result c.new.result (g.C.Scratch.view c.args.scratch) c.new-layout.ensures.is (c.new-layout.ensures.size ∙ c.size.ensures.size) c.new-layout.ensures.count c.new.ensures; marked = c.new-2.ensures c.args.pair }
