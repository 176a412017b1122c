use Rattle.std.proofs.Common.{◌≡◌, [], length, sym, ap, ◌∙◌, arith}
use Rattle.line_list.proofs.PlaceLemmas.{places-step, places-end}
use Rattle.line_list.proofs.LineSpansIterator.next.Goals as goal

pub returns-in_err-end-clause-steps : goal.returns-in_err-end-clause-steps
returns-in_err-end-clause-steps c =
    let none : c.args.self.now ≡ [] = sym c.self.view_is ∙ places-end c.self.inside.text.now c.self.inside.at c.in_err-end.ensures.1 in
    rw c.from_residual.ensures (none, none)

pub returns-clause-steps : goal.returns-clause-steps
returns-clause-steps c = sym c.self.view_is ∙ places-step c.self.inside.text.now c.self.inside.at c.in_ok-end.end c.in_ok-end.ensures

pub returns-clause-goes : goal.returns-clause-goes
returns-clause-goes c =
    let step = sym c.self.view_is ∙ places-step c.self.inside.text.now c.self.inside.at c.in_ok-end.end c.in_ok-end.ensures in
    record { on = λ _. (tt, tt, omega (arith, ap length step)); keeps = tt; rests = λ _. tt }
