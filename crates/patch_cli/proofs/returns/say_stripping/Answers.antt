use Rattle.std.proofs.Common.{rules}
use Rattle.patch_options.specs.PlainJob.{plain_options}
use Rattle.patch_cli.proofs.Stripping.{said_so}
use Rattle.patch_cli.proofs.returns.say_stripping.Goals as goal

pub returns-clause-writes : goal.returns-clause-writes
returns-clause-writes g c = said_so c.put_all.result (plain_options c.args.options.now) c.args.strips (search rules) (record { call = c.put_all.ensures.call; received = c.put_all.ensures.received; failed = c.put_all.ensures.failed })
