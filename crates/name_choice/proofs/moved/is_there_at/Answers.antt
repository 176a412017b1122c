use Rattle.std.proofs.lemmas.Result.{IfOk-weaker}
use Rattle.std.proofs.lemmas.Bool.{false≢true}
use Rattle.outside.proofs.Views.{untouched_none}
use Rattle.name_choice.proofs.Found.{nowhere-at, there-at}
use Rattle.name_choice.proofs.moved.is_there_at.Goals as goal

pub returns-in-Some-clause-there : goal.returns-in-Some-clause-there
returns-in-Some-clause-there g c =
    let found = c.in-Some.ensures.lookup in
    IfOk-weaker c.is_there.result _ _ (λ yes is files told. there-at files c.args.targets.now c.args.place c.in-Some.target.now yes found.3.0 found.1 (is files told)) c.is_there.ensures.there

pub returns-in-None-clause-there : goal.returns-in-None-clause-there
returns-in-None-clause-there g c = λ files told. nowhere-at files c.args.targets.now c.args.place c.in-None.ensures.lookup.3

pub returns-in-None-clause-within : goal.returns-in-None-clause-within
returns-in-None-clause-within g c = λ yes. absurd (false≢true yes)

pub returns-in-Some-clause-within : goal.returns-in-Some-clause-within
returns-in-Some-clause-within g c = IfOk-weaker c.is_there.result _ _ (λ yes any is. c.in-Some.ensures.lookup.3.0) c.is_there.ensures.there

pub returns-in-None-clause-untouched : goal.returns-in-None-clause-untouched
returns-in-None-clause-untouched g c = untouched_none _

pub returns-in-Some-clause-untouched : goal.returns-in-Some-clause-untouched
returns-in-Some-clause-untouched g c = c.is_there.ensures.untouched

pub returns-in-Some-clause-cause : goal.returns-in-Some-clause-cause
returns-in-Some-clause-cause g c = c.is_there.ensures.cause
