use Rattle.std.proofs.Common.{ap, sym}
use Rattle.outside.proofs.Views.{untouched_none}
use Rattle.name_choice.specs.Choice.{existing_at, names_of}
use Rattle.name_choice.proofs.moved.existing_if_any.Goals as goal

pub returns-in-Some-clause-chosen : goal.returns-in-Some-clause-chosen
returns-in-Some-clause-chosen g c = rw c.in-Some.is c.existing_at.ensures.chosen

pub returns-in-None-clause-untouched : goal.returns-in-None-clause-untouched
returns-in-None-clause-untouched g c = untouched_none _

pub returns-in-None-clause-chosen : goal.returns-in-None-clause-chosen
returns-in-None-clause-chosen g c = λ files told. ap (existing_at files (names_of c.args.targets.now)) (sym c.in-None.is)

pub returns-in-Some-clause-there : goal.returns-in-Some-clause-there
returns-in-Some-clause-there g c = c.existing_at.ensures.there

pub returns-in-Some-clause-cause : goal.returns-in-Some-clause-cause
returns-in-Some-clause-cause g c = c.existing_at.ensures.cause

pub returns-in-Some-clause-within : goal.returns-in-Some-clause-within
returns-in-Some-clause-within g c = c.existing_at.ensures.within

pub returns-in-Some-clause-untouched : goal.returns-in-Some-clause-untouched
returns-in-Some-clause-untouched g c = c.existing_at.ensures.untouched
