use Rattle.std.proofs.Common.{None, Some}
use Rattle.patch_options.specs.PlainJob.{plain_options}
use Rattle.patch_set.proofs.Found.{ed-reversed}
use Rattle.patch_set.proofs.refusals.ed_reverse.Goals as goal

pub returns-in-Some : goal.returns-in-Some
returns-in-Some c = λ text. ed-reversed (plain_options c.args.options.now) text c.args.patches.now (Some c.in-Some.line) c.if-not-options.false c.in-Some.ensures

pub returns-in-None : goal.returns-in-None
returns-in-None c = λ text. ed-reversed (plain_options c.args.options.now) text c.args.patches.now None c.if-not-options.false c.in-None.ensures
