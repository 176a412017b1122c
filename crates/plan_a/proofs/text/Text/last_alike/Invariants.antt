use Rattle.line_list.specs.Lines.{lines}
use Rattle.line_store.specs.Store.{NoneAlike}
use Rattle.plan_a.proofs.text.Text.last_alike.Given as goal

abbrev pub invariant-loop-k : goal.invariant-loop-k
invariant-loop-k l = NoneAlike (lines l.self.bytes.items) l.line l.k l.fn.to
