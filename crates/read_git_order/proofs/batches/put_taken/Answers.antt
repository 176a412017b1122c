use Rattle.std.proofs.Common.{◌++◌, length, sym, ap, ◌∙◌, arith}
use Rattle.std.proofs.lemmas.Bool.{eqb-true}
use Rattle.read_git_order.specs.Batches.{next_of, taken}
use Rattle.read_git_order.specs.Waiting.{waits}
use Rattle.read_git_order.proofs.Steps.{taken-all, taken-more}
use Rattle.read_git_order.proofs.batches.put_taken.Goals as goal

pub left-preserved : goal.left-preserved
left-preserved c =
    let w = waits c.args.text.now c.args.reverse c.args.pieces.now c.args.batch.now in
    taken-more w (c.args.order.now.items ++ taken (length c.args.batch.now) w c.args.batch.now)
    c.left.order.items c.push.new.self.items c.left.left.items c.remove.new.self.items c.next_of-next.result c.remove.result
    c.left.invariant (c.next_of-next.ensures.is ∙ ap (next_of w) c.deref.ensures.value) (omega (arith, c.next_of-next.ensures.within, ap length c.deref.ensures.value)) c.remove.ensures.value c.remove.ensures.items c.in_ok-push.ensures.items

pub returns : goal.returns
returns c =
    let w = waits c.args.text.now c.args.reverse c.args.pieces.now c.args.batch.now in
    taken-all w (c.args.order.now.items ++ taken (length c.args.batch.now) w c.args.batch.now) c.left.order.items c.left.left.items c.left.invariant
    (omega (arith, eqb-true c.left.left.len 0 (sym c.is_empty.ensures ∙ c.left-test.false), c.left.left.ok.0))
