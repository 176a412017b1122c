use Rattle.std.proofs.Common.{None, refl}
use Rattle.patch_set.proofs.Roomy.{none-blank, some-blank}
use Rattle.patch_set.proofs.marks.room_if.Goals as goal

pub returns-then-not-asked-clause-blank : goal.returns-then-not-asked-clause-blank
returns-then-not-asked-clause-blank c = none-blank c.args.patches.now c.args.output.now None refl

pub returns-clause-blank : goal.returns-clause-blank
returns-clause-blank c = some-blank c.args.patches.now c.args.output.now c.in_ok-names.names c.in_ok-names.ensures.unmarked c.in_ok-names.ensures.room
