use Rattle.patch_options.specs.Simple.{plain_table, simple_command}
use Rattle.patch_options.proofs.ByTable.{begun, group_more, groups_ended}
use Rattle.patch_options.proofs.simple.command_of.Goals as goal

pub loop-group-init : goal.loop-group-init
loop-group-init c = begun c.new.result c.disable_help_flag.result c.args_override_self-command.result c.args.name.now c.args.table.now c.new.ensures.app c.disable_help_flag.ensures c.args_override_self-command.ensures

pub loop-group-preserved : goal.loop-group-preserved
loop-group-preserved c =
    group_more (simple_command c.args.name.now (plain_table c.args.table.now)) c.loop-group.command c.in-Ok.longer c.args.table.now c.loop-group.group-index _
    c.loop-group-test.true c.loop-group.invariant c.in-Ok.ensures

pub returns : goal.returns
returns c = groups_ended (simple_command c.args.name.now (plain_table c.args.table.now)) c.loop-group.command c.args.table.now c.loop-group.group-index c.loop-group-test.false c.loop-group.invariant
