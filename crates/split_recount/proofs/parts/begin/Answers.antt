use Rattle.std.proofs.Common.{[]}
use Rattle.split_recount.proofs.Cutting.{names-more, no-names}
use Rattle.split_recount.proofs.parts.begin.Goals as goal

pub returns-in-Ok-clause-names : goal.returns-in-Ok-clause-names
returns-in-Ok-clause-names c = names-more [] c.new-names.result c.insert.new.self c.args.name (no-names c.new-names.result c.new-names.ensures.empty) c.in-Ok.ensures.updates
