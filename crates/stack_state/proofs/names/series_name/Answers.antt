use Rattle.stack_state.proofs.Named.{series_named}
use Rattle.stack_state.proofs.names.series_name.Goals as goal

pub named-requires : goal.named-requires
named-requires c = series_named
