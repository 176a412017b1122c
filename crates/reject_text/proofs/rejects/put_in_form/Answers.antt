use Rattle.reject_text.proofs.Signed.{no-form}
use Rattle.reject_text.proofs.rejects.put_in_form.Goals as goal

pub returns-in-Context : goal.returns-in-Context
returns-in-Context g c = rw c.in-Context.is c.put_hunk-in-Context.ensures.put

pub returns-in-Unified : goal.returns-in-Unified
returns-in-Unified g c = rw c.in-Unified.is c.put_hunk.ensures.put

pub unreachable-requires : goal.unreachable-requires
unreachable-requires g c = no-form c.args.form c.requires.form c.in-Normal.is
