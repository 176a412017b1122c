use Rattle.stack_state.proofs.Counting.{count_few}
use Rattle.stack_state.proofs.state.counted.Goals as goal

pub returns-in-Ok-clause-few : goal.returns-in-Ok-clause-few
returns-in-Ok-clause-few c = count_few c.args.most c.args.text.now c.in-Ok.count c.in-Ok.ensures.count
