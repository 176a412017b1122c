use Rattle.stack_state.proofs.Counting.{series_few}
use Rattle.stack_state.proofs.state.listed.Goals as goal

pub returns-in-Ok-clause-few : goal.returns-in-Ok-clause-few
returns-in-Ok-clause-few c = series_few c.args.text.now c.in-Ok.names.items c.in-Ok.ensures.names
