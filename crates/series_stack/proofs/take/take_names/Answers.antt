use Rattle.std.proofs.Common.{◌≡◌, ◌+◌, ◌++◌, ◌∷◌, [], ℕ, List, take, drop, suc, Err, sym, ◌∙◌, ap, subst, arith}
use Rattle.std.proofs.lemmas.List.{take_all, take_more}
use Rattle.std.proofs.lemmas.Result.{err_from_is_err_and}
use Rattle.outside.specs.Calls.{untouched_both}
use Rattle.series_stack.specs.declared.fault.StackFault.{StackFault}
use Rattle.series_stack.specs.Taking.{HasTakeCause}
use Rattle.series_stack.proofs.Taking.{HasTaken, nothing_taken, taken_more, taken_is_save, take_fails, ahead_of, if_err}
use Rattle.series_stack.proofs.take.take_names.Goals as goal

pub loop-name-init : goal.loop-name-init
loop-name-init g c = nothing_taken (g.T.Tree.view c.args.tree.now) c.new-text.result.items c.new-text.ensures.items

pub loop-name-preserved : goal.loop-name-preserved
loop-name-preserved g c =
    let i = c.loop-name.name-index in
    let names = c.args.names.now in
    let name : List ℕ = c.name-item.result in
    let more : take (i + 1) names ≡ take i names ++ name ∷ [] = take_more names i name (omega arith) ∙ ap (λ n. take i names ++ n ∷ []) (sym c.name-item.is) in
    subst (λ (l : List (List ℕ)). HasTaken (g.T.Tree.view c.args.tree.now) (g.T.Tree.view c.add_entry.new.tree) l c.add_entry.new.text.items) (sym more)
    (taken_more c.loop-name.invariant (g.T.Tree.view c.add_entry.new.tree) name c.add_entry.new.text.items c.in_ok-add_entry.ensures.untouched c.in_ok-add_entry.ensures.entry c.in_ok-add_entry.ensures.short c.in_ok-add_entry.ensures.form)

pub returns : goal.returns
returns g c =
    let taken : HasTaken (g.T.Tree.view c.args.tree.now) (g.T.Tree.view c.loop-name.tree) c.args.names.now c.loop-name.text.items =
    subst (λ (l : List (List ℕ)). HasTaken (g.T.Tree.view c.args.tree.now) (g.T.Tree.view c.loop-name.tree) l c.loop-name.text.items) (take_all c.loop-name.name-index c.args.names.now (omega arith)) c.loop-name.invariant in
    record { untouched = taken.untouched; save = taken.save; short = taken.short; entries = record { entries = taken.entries; named = taken.named; short = taken.small; text = taken.text }; form = λ saved. taken_is_save taken saved; cause = tt }

pub returns-in_err-add_entry-clause-untouched : goal.returns-in_err-add_entry-clause-untouched
returns-in_err-add_entry-clause-untouched g c = untouched_both c.loop-name.invariant.untouched c.in_err-add_entry.ensures.untouched

pub returns-in_err-add_entry-clause-cause : goal.returns-in_err-add_entry-clause-cause
returns-in_err-add_entry-clause-cause g c =
    let i = c.loop-name.name-index in
    let names = c.args.names.now in
    let u = g.T.Tree.view c.args.tree.now in
    let w = g.T.Tree.view c.add_entry.new.tree in
    let name : List ℕ = c.name-item.result in
    let at : names ≡ take i names ++ name ∷ drop (suc i) names = ahead_of names i name (omega arith) ∙ ap (λ n. take i names ++ n ∷ drop (suc i) names) (sym c.name-item.is) in
    let p = err_from_is_err_and c.from_residual.result c.from_residual.ensures.1 in
    let e : StackFault = c.in_err-add_entry.field-0.0 in
    if_err (λ d. HasTakeCause d u w names) c.from_residual.result e (p.1 ∙ ap (λ (d : StackFault). Err d) p.2)
    (take_fails c.loop-name.invariant w names (drop (suc i) names) name at e c.in_err-add_entry.ensures.cause)
