use Rattle.hunk_core.specs.PlainHunk.{hunk_of}
use Rattle.hunk_core.specs.Turned.{taken}
use Rattle.context_form.proofs.Again.{spells-first}
use Rattle.context_form.proofs.writing.put_hunk.Goals as goal

pub returns-clause-again : goal.returns-clause-again
returns-clause-again g c = λ rest unbroken clean stops quiet. spells-first (taken c.args.side c.args.starts.0 c.args.starts.1 (hunk_of c.args.text.now c.args.hunk.now)) rest unbroken clean stops quiet
