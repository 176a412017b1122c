use Rattle.stack_state.specs.Causes.{HasCause}
use Rattle.std.proofs.Common.{ap, option_map, vec_items, ◌∙◌}
use Rattle.stack_state.proofs.Saving.{err-still, read-cause}
use Rattle.stack_state.proofs.Held.{last_cause}
use Rattle.stack_state.specs.Reading.{last_save, whole_save}
use Rattle.series_stack.specs.Stack.{saved_in}
use Rattle.stack_state.proofs.saves.read_last_save.Goals as goal

pub returns : goal.returns
returns g c = record {
  untouched = c.read_save.ensures.untouched;
  save = λ f told. ap (λ o. whole_save o (saved_in o)) (c.in_ok-held.ensures.save f told) ∙ c.in_ok-text.ensures.save;
  form = c.in_ok-text.ensures.form;
  cause = tt;
}

pub returns-in_err-text-clause-cause : goal.returns-in_err-text-clause-cause
returns-in_err-text-clause-cause g c =
    let u = g.T.Tree.view c.args.tree.now in
    let w = g.T.Tree.view c.read_save.new.tree in
    let e = c.in_err-text.field-0.0 in
    err-still (λ x. HasCause x u w (last_save c.args.number)) e c.from_residual-in_err-text.result c.from_residual-in_err-text.ensures.1
    (last_cause e u w c.args.number (option_map vec_items c.in_ok-held.held) c.in_ok-held.ensures.save c.in_err-text.ensures.cause)

pub returns-in_err-held-clause-cause : goal.returns-in_err-held-clause-cause
returns-in_err-held-clause-cause g c =
    let u = g.T.Tree.view c.args.tree.now in
    let w = g.T.Tree.view c.read_save.new.tree in
    let e = c.in_err-held.field-0.0 in
    err-still (λ x. HasCause x u w (last_save c.args.number)) e c.from_residual.result c.from_residual.ensures.1 (read-cause e u w (last_save c.args.number) c.in_err-held.ensures.cause)

pub returns-in_err-text-clause-untouched : goal.returns-in_err-text-clause-untouched
returns-in_err-text-clause-untouched g c = c.read_save.ensures.untouched
