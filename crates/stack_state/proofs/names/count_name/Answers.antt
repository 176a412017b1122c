use Rattle.stack_state.proofs.Named.{count_named}
use Rattle.stack_state.proofs.names.count_name.Goals as goal

pub named-requires : goal.named-requires
named-requires c = count_named
