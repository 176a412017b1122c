use Rattle.std.proofs.Common.{◌≡◌, ◌+◌, cond, sym, subst, ap, ◌∙◌, arith}
use Rattle.outside.proofs.Views.{untouched_both}
use Rattle.name_choice.proofs.Counted.{IsCounted, counted-start, counted-more, count-end}
use Rattle.name_choice.proofs.search.new_directories.Goals as goal
use Rattle.name_choice.proofs.search.new_directories.Goals.{then-branch, else-branch}

pub loop-parts-init : goal.loop-parts-init
loop-parts-init g c = counted-start _ _ _

pub returns-in_err-is_new_directory-clause-untouched :
    goal.returns-in_err-is_new_directory-clause-untouched
returns-in_err-is_new_directory-clause-untouched g c = untouched_both c.loop-parts.invariant.untouched c.in_err-is_new_directory.ensures.untouched

pub loop-parts-preserved : goal.loop-parts-preserved
loop-parts-preserved g c =
    let old = c.loop-parts.count in
    let missing = c.in_ok-is_new_directory.field-0 in
    subst (λ k. IsCounted (g.T.Tree.view c.args.tree.now) (g.T.Tree.view c.is_new_directory.new.tree) c.args.name.now c.parts-parts-end.result (c.loop-parts.parts + 1) k)
    (elim c.if-branch.branch [
      | then-branch w ↦ ap (λ b. old + cond b 1 0) w.if-branch.true ∙ sym w.count-is
      | else-branch w ↦ (let none : old + 0 ≡ old = omega arith in ap (λ b. old + cond b 1 0) w.if-branch.false ∙ none ∙ sym w.count-is)
    ])
    (counted-more _ _ _ c.args.name.now c.parts-parts-end.result c.loop-parts.parts old missing c.loop-parts.invariant c.in_ok-is_new_directory.ensures.untouched (omega arith) (omega arith) c.in_ok-is_new_directory.ensures.there)

pub returns-clause-untouched : goal.returns-clause-untouched
returns-clause-untouched g c = c.loop-parts.invariant.untouched

pub returns-clause-count : goal.returns-clause-count
returns-clause-count g c = λ files told. c.loop-parts.invariant.is files told ∙ count-end files c.args.name.now _ c.loop-parts.parts c.parts-parts-end.ensures.count (omega arith)
