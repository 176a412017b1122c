use Rattle.std.proofs.Common.{get_or, refl, sym, ◌∙◌}
use Rattle.read_git_order.specs.Waiting.{waits}
use Rattle.read_git_order.proofs.Steps.{led-more, led-round, led-stop}
use Rattle.read_git_order.proofs.batches.next_of.Goals as goal

pub returns-in_default-clause-is : goal.returns-in_default-clause-is
returns-in_default-clause-is c =
    let w = waits c.args.text.now c.args.reverse c.args.pieces.now c.args.batch.now in
    led-stop w c.args.left.now c.steps.place c.steps.most (get_or c.args.left.now c.steps.place 0) c.steps.invariant c.steps-test.true refl (sym c.in_default.is ∙ c.first_waited_for.ensures.is)

pub steps-preserved : goal.steps-preserved
steps-preserved c =
    let w = waits c.args.text.now c.args.reverse c.args.pieces.now c.args.batch.now in
    led-more w c.args.left.now c.steps.place c.steps.most (get_or c.args.left.now c.steps.place 0) c.in-Some.next c.steps.invariant c.steps-test.true refl (sym c.in-Some.is ∙ c.first_waited_for.ensures.is) c.in-Some.ensures.within

pub returns-clause-is : goal.returns-clause-is
returns-clause-is c = led-round (waits c.args.text.now c.args.reverse c.args.pieces.now c.args.batch.now) c.args.left.now c.steps.place c.steps.most c.steps.invariant c.steps-test.false
