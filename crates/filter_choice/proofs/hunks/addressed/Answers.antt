use Rattle.std.proofs.Common.{◌≡◌, ◌-◌, length, get_or, ap, subst, ◌∙◌, arith, rules, max}
use Rattle.line_list.proofs.Elements.{found}
use Rattle.filter_choice.proofs.OldLines.{script-lines}
use Rattle.filter_choice.proofs.hunks.addressed.Goals as goal

pub returns : goal.returns
returns c = λ text lawful.
    let es = c.args.script.now.edits.items in
    let front = c.index-front.result.now in
    let n : c.len.result ≡ length es = search rules in
    script-lines text es c.index-end.result.now c.index-front.result.now c.from.result c.from-2.result lawful.edits
    (found es 0 c.index-end.result.now c.requires c.index-end.ensures)
    (found es (length es - 1) front (omega (arith, c.requires)) (subst (λ k. front ≡ get_or es (k - 1) front) n c.index-front.ensures))
    (c.from.ensures ∙ c.min.ensures)
    c.from-2.ensures
