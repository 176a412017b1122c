use Rattle.std.proofs.Common.{◌≡◌, ◌+◌, ℕ, suc, List, Some, take, drop, ap, sym, ◌∙◌, eq-eqb, arith}
use Rattle.std.proofs.lemmas.List.{take_rest}
use Rattle.std.proofs.lemmas.Bool.{eqb-true}
use Rattle.series_stack.proofs.Fronts.{cut-at, cut-none}
use Rattle.series_stack.proofs.text.cut.Goals as goal

pub returns-in-Some : goal.returns-in-Some
returns-in-Some c =
    let text = c.args.text.now in
    let end = c.in-Some.end in
    let found = c.in-Some.ensures in
    let next : end + 1 ≡ suc end = omega arith in
    ap (λ (l : List ℕ). Some (take end text, l)) (take_rest text (end + 1) ∙ ap (λ (n : ℕ). drop n text) next)
    ∙ sym (cut-at text end found.0.high (eqb-true _ _ found.1) (λ i lt e. found.0.before i (omega arith) lt (eq-eqb _ _ e)))

pub returns-in-None : goal.returns-in-None
returns-in-None c = sym (cut-none c.args.text.now (λ i lt e. c.in-None.ensures i (omega arith) lt (eq-eqb _ _ e)))
