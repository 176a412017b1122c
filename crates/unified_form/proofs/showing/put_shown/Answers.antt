use Rattle.hunk_core.specs.PlainHunk.{hunk_of}
use Rattle.unified_form.proofs.ShownAgain.{shown-first}
use Rattle.unified_form.proofs.showing.put_shown.Goals as goal

pub returns-clause-again : goal.returns-clause-again
returns-clause-again g c = λ rest quiet unbroken clean silent. shown-first c.args.behind.now (hunk_of c.args.text.now c.args.hunk.now) rest quiet unbroken clean silent
