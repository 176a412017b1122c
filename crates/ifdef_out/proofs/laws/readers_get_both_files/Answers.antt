use Rattle.std.proofs.Common.{false, true}
use Rattle.ifdef_out.proofs.ReadLemmas.{read-text}
use Rattle.ifdef_out.proofs.laws.readers_get_both_files.Goals as goal

pub returns-clause-undefined : goal.returns-clause-undefined
returns-clause-undefined c name = read-text name false

pub returns-clause-defined : goal.returns-clause-defined
returns-clause-defined c name = read-text name true
