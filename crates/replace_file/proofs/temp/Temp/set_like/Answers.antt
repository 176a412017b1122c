use Rattle.outside.specs.Calls.{untouched_both}
use Rattle.replace_file.proofs.temp.Temp.set_like.Goals as goal

pub returns-then-branch-clause-untouched : goal.returns-then-branch-clause-untouched
returns-then-branch-clause-untouched g c = untouched_both c.is_barred.ensures.untouched c.set_link.ensures.untouched
