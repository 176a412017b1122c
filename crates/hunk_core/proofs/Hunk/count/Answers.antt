use Rattle.hunk_core.proofs.Walks.{counts-one, counts-none, counted-all}
use Rattle.hunk_core.proofs.Hunk.count.Goals.{then-is_taken, else-is_taken}
use Rattle.hunk_core.proofs.Hunk.count.Goals as goal

pub loop-line-preserved : goal.loop-line-preserved
loop-line-preserved c =
    elim c.if-is_taken.branch [
      | then-is_taken w ↦ (let h = counts-one c.args.side c.args.self.now.body.items c.deref-line-items.result.now c.deref-line-items.ensures.value c.loop-line.line-index c.loop-line.count c.if-is_taken.count c.loop-line.invariant.is c.loop-line.invariant.few _ c.loop-line-test.true w.count-is w.if-is_taken.ensures in record { is = h.0; few = h.1 })
      | else-is_taken w ↦ (let h = counts-none c.args.side c.args.self.now.body.items c.deref-line-items.result.now c.deref-line-items.ensures.value c.loop-line.line-index c.loop-line.count c.if-is_taken.count c.loop-line.invariant.is c.loop-line.invariant.few _ c.loop-line-test.true w.count-is w.if-is_taken.ensures in record { is = h.0; few = h.1 })
    ]

pub returns : goal.returns
returns c = counted-all c.args.side c.args.self.now.body.items c.deref-line-items.result.now c.loop-line.line-index c.loop-line.count c.deref-line-items.ensures.value c.loop-line.invariant.is c.loop-line-test.false
