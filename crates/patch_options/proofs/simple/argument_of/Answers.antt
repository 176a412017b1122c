use Rattle.clap.specs.declared.builder.action.ArgAction.TheVariants.{Count, Append}
use Rattle.patch_options.proofs.Arguments.{switch_rule, counted_rule, value_rule, values_rule, operand_rule, long_local, action_local}
use Rattle.patch_options.proofs.simple.argument_of.Goals as goal

pub returns-in-Switch-clause-rule : goal.returns-in-Switch-clause-rule
returns-in-Switch-clause-rule c = switch_rule c.args.word.now c.lettered.result c.lettered.ensures.rule c.long.result c.action.result c.in-Switch.is c.long.ensures c.action.ensures

pub returns-in-Switch-clause-local : goal.returns-in-Switch-clause-local
returns-in-Switch-clause-local c = action_local c.long.result c.action.result Count c.action.ensures (long_local c.lettered.result c.long.result c.args.word.now.name c.long.ensures c.lettered.ensures.local)

pub returns-in-Letter-clause-rule : goal.returns-in-Letter-clause-rule
returns-in-Letter-clause-rule c = counted_rule c.args.word.now c.lettered-in-Letter.result c.lettered-in-Letter.ensures.rule c.action-in-Letter.result c.in-Letter.is c.action-in-Letter.ensures

pub returns-in-Letter-clause-local : goal.returns-in-Letter-clause-local
returns-in-Letter-clause-local c = action_local c.lettered-in-Letter.result c.action-in-Letter.result Count c.action-in-Letter.ensures c.lettered-in-Letter.ensures.local

pub returns-in-Value-clause-rule : goal.returns-in-Value-clause-rule
returns-in-Value-clause-rule c = value_rule c.args.word.now c.lettered-in-Value.result c.lettered-in-Value.ensures.rule c.long-in-Value.result c.in-Value.is c.long-in-Value.ensures

pub returns-in-Value-clause-local : goal.returns-in-Value-clause-local
returns-in-Value-clause-local c = long_local c.lettered-in-Value.result c.long-in-Value.result c.args.word.now.name c.long-in-Value.ensures c.lettered-in-Value.ensures.local

pub returns-in-Values-clause-rule : goal.returns-in-Values-clause-rule
returns-in-Values-clause-rule c = values_rule c.args.word.now c.lettered-in-Values.result c.lettered-in-Values.ensures.rule c.long-in-Values.result c.action-in-Values.result c.in-Values.is c.long-in-Values.ensures c.action-in-Values.ensures

pub returns-in-Values-clause-local : goal.returns-in-Values-clause-local
returns-in-Values-clause-local c = action_local c.long-in-Values.result c.action-in-Values.result Append c.action-in-Values.ensures (long_local c.lettered-in-Values.result c.long-in-Values.result c.args.word.now.name c.long-in-Values.ensures c.lettered-in-Values.ensures.local)

pub returns-in-Operand-clause-rule : goal.returns-in-Operand-clause-rule
returns-in-Operand-clause-rule c = operand_rule c.args.word.now c.lettered-in-Operand.result c.lettered-in-Operand.ensures.rule c.in-Operand.is

pub returns-in-Operand-clause-local : goal.returns-in-Operand-clause-local
returns-in-Operand-clause-local c = c.lettered-in-Operand.ensures.local
