use Rattle.std.proofs.Common.{Err, sym, ◌∙◌, ap}
use Rattle.std.proofs.lemmas.Result.{err_from_is_err_and}
use Rattle.series_stack.specs.declared.fault.StackFault.{StackFault}
use Rattle.series_stack.proofs.Saving.{some_left, nothing_left}
use Rattle.series_stack.proofs.Going.{starts, front_saved, front_shorter, goes, fails, ends}
use Rattle.series_stack.proofs.files.restore_all.Goals as goal

pub loop-rest-init : goal.loop-rest-init
loop-rest-init g c = starts (g.T.Tree.view c.args.tree.now) c.args.save.now c.requires.save c.requires.quiet

pub restore_first-requires-clause-saved : goal.restore_first-requires-clause-saved
restore_first-requires-clause-saved g c = front_saved c.loop-rest.invariant (some_left c.loop-rest.rest.now (sym c.is_empty.ensures ∙ c.loop-rest-test.true))

pub loop-rest-preserved : goal.loop-rest-preserved
loop-rest-preserved g c =
    goes c.loop-rest.invariant (some_left c.loop-rest.rest.now (sym c.is_empty.ensures ∙ c.loop-rest-test.true))
    _ (g.T.Tree.view c.restore_first.new.tree) c.in_ok-rest.rest c.in_ok-rest.rest.now c.in_ok-rest.ensures.rest c.in_ok-rest.ensures.makes

pub loop-rest-smaller : goal.loop-rest-smaller
loop-rest-smaller g c =
    front_shorter c.loop-rest.invariant (some_left c.loop-rest.rest.now (sym c.is_empty.ensures ∙ c.loop-rest-test.true)) c.in_ok-rest.rest.now c.in_ok-rest.ensures.rest

pub returns : goal.returns
returns g c = record {
  makes = ends _ tt c.loop-rest.invariant (nothing_left c.loop-rest.rest.now (sym c.is_empty.ensures ∙ c.loop-rest-test.false));
  cause = tt;
}

pub returns-in_err-rest-clause-makes : goal.returns-in_err-rest-clause-makes
returns-in_err-rest-clause-makes g c =
    let p = err_from_is_err_and c.from_residual.result c.from_residual.ensures.1 in
    fails c.loop-rest.invariant (some_left c.loop-rest.rest.now (sym c.is_empty.ensures ∙ c.loop-rest-test.true))
    _ (g.T.Tree.view c.restore_first.new.tree) c.in_err-rest.field-0.0 c.from_residual.result (p.1 ∙ ap (λ (e : StackFault). Err e) p.2) c.in_err-rest.ensures.makes
