use Rattle.hunk_core.proofs.TextLemmas.{strips}
use Rattle.hunk_core.proofs.text.after_prefix.Goals as goal

pub returns : goal.returns
returns c = strips c.args.prefix.now c.args.bytes.now c.strip_prefix.result c.strip_prefix.ensures.cases
