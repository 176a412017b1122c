use Rattle.std.proofs.Common.{sym, ◌∙◌}
use Rattle.hunk_core.specs.Turned.{is_keep}
use Rattle.hunk_core.proofs.Walks.{fits-below, stops-here, goes-here, ends-here}
use Rattle.hunk_core.proofs.Hunk.pre.Goals as goal

pub bounds-line-items-i : goal.bounds-line-items-i
bounds-line-items-i c = c.loop-i-test.true

pub overflow_cast-result : goal.overflow_cast-result
overflow_cast-result c = fits-below _ _ _ c.loop-i-test.true c.deref-line-items.ensures.len c.requires

pub returns-then-not-is_context : goal.returns-then-not-is_context
returns-then-not-is_context c = stops-here (λ m. is_keep m.mark) c.args.self.now.body.items c.deref-line-items.result.now c.deref-line-items.ensures.value c.loop-i.i c.loop-i.invariant _ c.loop-i-test.true c.if-not-is_context.ensures

pub loop-i-preserved : goal.loop-i-preserved
loop-i-preserved c = goes-here (λ m. is_keep m.mark) c.args.self.now.body.items c.deref-line-items.result.now c.deref-line-items.ensures.value c.loop-i.i c.loop-i.invariant _ c.loop-i-test.true c.if-not-is_context.ensures

pub returns : goal.returns
returns c = ends-here (λ m. is_keep m.mark) c.args.self.now.body.items c.deref-line-items.result.now c.deref-line-items.ensures.value c.loop-i.i c.loop-i.invariant c.len.result c.loop-i-test.false c.loop-i.auto.i-end (c.len.ensures ∙ sym c.deref-line-items.ensures.len)
