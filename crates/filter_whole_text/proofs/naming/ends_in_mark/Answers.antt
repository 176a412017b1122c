use Rattle.std.proofs.Common.{ℕ, List, refl, sym, ◌∙◌, ap}
use Rattle.std.proofs.lemmas.List.{drop_all}
use Rattle.filter_whole_text.specs.PartNames.{is_mark, ends_in_mark}
use Rattle.filter_whole_text.proofs.NameLoops.{mark-none, mark-here, mark-later, rest-is}
use Rattle.filter_whole_text.proofs.naming.ends_in_mark.Goals as goal

pub loop-at-init : goal.loop-at-init
loop-at-init c = refl

pub returns-then-is_mark : goal.returns-then-is_mark
returns-then-is_mark c =
    let text = c.args.text.now in
    let at = c.loop-at.at in
    sym (mark-here text at c.loop-at-test.true (ap (λ (l : List ℕ). is_mark l) (sym (rest-is text at)) ∙ sym c.is_mark.ensures ∙ c.if-is_mark.true)) ∙ c.loop-at.invariant

pub loop-at-preserved : goal.loop-at-preserved
loop-at-preserved c =
    let text = c.args.text.now in
    let at = c.loop-at.at in
    sym (mark-later text at c.loop-at-test.true (ap (λ (l : List ℕ). is_mark l) (sym (rest-is text at)) ∙ sym c.is_mark.ensures ∙ c.if-is_mark.false)) ∙ c.loop-at.invariant

pub returns : goal.returns
returns c = sym mark-none ∙ ap (λ (l : List ℕ). ends_in_mark l) (sym (drop_all c.loop-at.at c.args.text.now c.loop-at-test.false)) ∙ c.loop-at.invariant
