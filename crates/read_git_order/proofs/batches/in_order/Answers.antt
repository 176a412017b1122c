use Rattle.std.proofs.Common.{◌++◌, ap, ◌∙◌}
use Rattle.read_git_order.specs.Batches.{in_batch}
use Rattle.read_git_order.proofs.Steps.{cut-all, cut-more}
use Rattle.read_git_order.proofs.batches.in_order.Goals as goal

pub pieces-preserved : goal.pieces-preserved
pieces-preserved c =
    cut-more c.args.text.now c.args.reverse c.args.pieces.now c.pieces.order.items c.take_up.new.order.items c.pieces.batch.items c.take_up.new.batch.items c.pieces.k
    c.pieces.invariant c.pieces-test.true c.in_ok-take_up.ensures.batch c.in_ok-take_up.ensures.order

pub returns : goal.returns
returns c =
    cut-all c.args.text.now c.args.reverse c.args.pieces.now c.pieces.order.items c.put_batch.new.order.items c.pieces.batch.items c.pieces.k c.pieces.invariant c.pieces-test.false
    (c.in_ok-put_batch.ensures ∙ ap (λ b. c.pieces.order.items ++ in_batch c.args.text.now c.args.reverse c.args.pieces.now b) c.deref.ensures.value)
