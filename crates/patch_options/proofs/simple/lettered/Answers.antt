use Rattle.patch_options.proofs.Arguments.{letter_rule, no_letter_rule, short_local}
use Rattle.patch_options.proofs.simple.lettered.Goals as goal

pub returns-in-Some-clause-rule : goal.returns-in-Some-clause-rule
returns-in-Some-clause-rule c = letter_rule c.args.word.now.name.now c.args.word.now.letter c.in-Some.letter c.new.result c.short.result c.in-Some.is c.new.ensures.rule c.short.ensures

pub returns-in-Some-clause-local : goal.returns-in-Some-clause-local
returns-in-Some-clause-local c = short_local c.new.result c.short.result c.in-Some.letter c.short.ensures c.new.ensures.optional.1

pub returns-in-None-clause-rule : goal.returns-in-None-clause-rule
returns-in-None-clause-rule c = no_letter_rule c.args.word.now.name.now c.args.word.now.letter c.new-in-None.result c.in-None.is c.new-in-None.ensures.rule

pub returns-in-None-clause-local : goal.returns-in-None-clause-local
returns-in-None-clause-local c = c.new-in-None.ensures.optional.1
