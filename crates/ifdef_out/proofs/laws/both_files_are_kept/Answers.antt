use Rattle.ifdef_out.proofs.KeptLemmas.{old-kept, new-made, hunks-applied, script-carried}
use Rattle.ifdef_out.proofs.laws.both_files_are_kept.Goals as goal

pub returns-clause-old : goal.returns-clause-old
returns-clause-old c = old-kept

pub returns-clause-new : goal.returns-clause-new
returns-clause-new c = new-made

pub returns-clause-applied : goal.returns-clause-applied
returns-clause-applied c = hunks-applied

pub returns-clause-carried_out : goal.returns-clause-carried_out
returns-clause-carried_out c = script-carried
