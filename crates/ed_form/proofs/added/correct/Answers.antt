use Rattle.std.proofs.Common.{Some, arith}
use Rattle.std.proofs.lemmas.Result.{IfOk-from_err}
use Rattle.std.proofs.lemmas.List.Elements.{All-push, All-pop}
use Rattle.hunk_core.specs.Turned.{LiesIn}
use Rattle.ed_form.proofs.Lasts.{last-long, corrects, later}
use Rattle.ed_form.proofs.added.correct.Goals as goal

pub overflow_add-last : goal.overflow_add-last
overflow_add-last c =
    let items = c.args.added.now.items in
    let both = All-pop (LiesIn c.args.text.now) items c.pop.new.self.items (Some c.in-Some.last) c.in-Some.ensures.items c.requires.lies in
    let long = last-long c.args.text.now items c.pop.new.self.items c.in-Some.last c.in-Some.ensures.items both.1 c.requires.double in
    omega (arith, long, both.1.1, c.requires.short)

pub returns-in_ok-push-clause-lies : goal.returns-in_ok-push-clause-lies
returns-in_ok-push-clause-lies c =
    let items = c.args.added.now.items in
    let both = All-pop (LiesIn c.args.text.now) items c.pop.new.self.items (Some c.in-Some.last) c.in-Some.ensures.items c.requires.lies in
    let long = last-long c.args.text.now items c.pop.new.self.items c.in-Some.last c.in-Some.ensures.items both.1 c.requires.double in
    rw c.in_ok-push.ensures.items (All-push (LiesIn c.args.text.now) c.pop.new.self.items (later c.in-Some.last) both.0 (omega (arith, long), both.1.1))

pub returns-in_ok-push-clause-exact : goal.returns-in_ok-push-clause-exact
returns-in_ok-push-clause-exact c =
    let items = c.args.added.now.items in
    let both = All-pop (LiesIn c.args.text.now) items c.pop.new.self.items (Some c.in-Some.last) c.in-Some.ensures.items c.requires.lies in
    corrects c.args.text.now items c.pop.new.self.items c.push.new.self.items c.in-Some.last c.in-Some.ensures.items c.in_ok-push.ensures.items both.1 c.requires.double

pub returns-in_err-push-clause-lies : goal.returns-in_err-push-clause-lies
returns-in_err-push-clause-lies c = IfOk-from_err c.from_residual.result _ c.from_residual.ensures.0

pub returns-in_err-push-clause-len : goal.returns-in_err-push-clause-len
returns-in_err-push-clause-len c = IfOk-from_err c.from_residual.result _ c.from_residual.ensures.0

pub returns-in_err-push-clause-exact : goal.returns-in_err-push-clause-exact
returns-in_err-push-clause-exact c = IfOk-from_err c.from_residual.result _ c.from_residual.ensures.0

pub returns-in_ok-push-clause-memory : goal.returns-in_ok-push-clause-memory
returns-in_ok-push-clause-memory c = tt

pub returns-in_default-clause-memory : goal.returns-in_default-clause-memory
returns-in_default-clause-memory c = tt
