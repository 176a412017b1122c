use Rattle.std.proofs.Common.{◌∙◌}
use Rattle.patch_options.proofs.Refusing.{prefix_told, no_prefix}
use Rattle.patch_options.proofs.names.is_prefix.Goals as goal

pub returns-clause-is : goal.returns-clause-is
returns-clause-is c = prefix_told c.args.text.now c.as_str.result.now (c.as_str.ensures.value ∙ c.in_ok-sample.ensures) c.is_normal.result c.is_normal.ensures.normal c.is_normal.ensures.lawful

pub returns-clause-refused : goal.returns-clause-refused
returns-clause-refused c = no_prefix c.args.text.now c.as_str.result.now (c.as_str.ensures.value ∙ c.in_ok-sample.ensures) c.is_normal.result c.is_normal.ensures.refused
