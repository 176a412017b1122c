use Rattle.patch_options.specs.PlainJob.{plain_options}
use Rattle.stack_patch.proofs.Refusing.{lawful_as, patch_as, read_as, some_refused, text_none, text_refused}
use Rattle.stack_patch.proofs.read_text.Goals as goal

pub read_clean-requires : goal.read_clean-requires
read_clean-requires c = lawful_as (plain_options c.args.options.now) c.requires

pub returns-in-Ok-clause-patch : goal.returns-in-Ok-clause-patch
returns-in-Ok-clause-patch c = patch_as (plain_options c.args.options.now) c.args.text.items c.in-Ok.set c.requires c.in-Ok.ensures.read c.in-Ok.ensures.refused

pub returns-in-Err-clause-none : goal.returns-in-Err-clause-none
returns-in-Err-clause-none c = text_none (plain_options c.args.options.now) c.args.text.items c.in-Err.fault c.requires c.in-Err.ensures.refused

pub returns-in-Err-clause-some : goal.returns-in-Err-clause-some
returns-in-Err-clause-some c = some_refused (plain_options c.args.options.now) c.args.text.items c.in-Err.fault c.requires c.in-Err.ensures.refused

pub returns-in-Ok-clause-read : goal.returns-in-Ok-clause-read
returns-in-Ok-clause-read c = read_as (plain_options c.args.options.now) c.args.text.items c.in-Ok.set c.requires c.in-Ok.ensures.read

pub returns-in-Ok-clause-whole : goal.returns-in-Ok-clause-whole
returns-in-Ok-clause-whole c = c.in-Ok.ensures.whole

pub returns-in-Ok-clause-fresh : goal.returns-in-Ok-clause-fresh
returns-in-Ok-clause-fresh c = c.in-Ok.ensures.fresh

pub returns-in-Err-clause-cause : goal.returns-in-Err-clause-cause
returns-in-Err-clause-cause c = text_refused (plain_options c.args.options.now) c.args.text.items c.in-Err.fault c.requires c.in-Err.ensures.refused
