use Rattle.std.proofs.Common.{◌∙◌}
use Rattle.apply_outcome.proofs.past.was_written.Goals as goal

pub returns-in-Some : goal.returns-in-Some
returns-in-Some c = c.has.ensures ∙ c.requires.turn.written c.in-Some.names c.in-Some.is c.args.name.now
