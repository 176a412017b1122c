use Rattle.std.proofs.Common.{false, sym, ◌∙◌, ap, option_map, vec_items}
use Rattle.outside.specs.Calls.{untouched_both}
use Rattle.outside.proofs.Exits.{if_ok_none}
use Rattle.stack_state.specs.Reading.{next_save}
use Rattle.stack_state.specs.Causes.{HasCause}
use Rattle.stack_state.proofs.Saving.{err-still, read-cause, cause-behind, next-is, judged-cause, save_if}
use Rattle.stack_state.proofs.saves.read_next_save.Goals as goal

pub returns-in_err-held-clause-save : goal.returns-in_err-held-clause-save
returns-in_err-held-clause-save g c = if_ok_none _ _ c.from_residual.result c.from_residual.ensures.1

pub returns-in_err-held-clause-good : goal.returns-in_err-held-clause-good
returns-in_err-held-clause-good g c = if_ok_none _ _ c.from_residual.result c.from_residual.ensures.1

pub returns-in_err-held-clause-cause : goal.returns-in_err-held-clause-cause
returns-in_err-held-clause-cause g c =
    let u = g.T.Tree.view c.args.tree.now in
    let w = g.T.Tree.view c.read_save.new.tree in
    let e = c.in_err-held.field-0.0 in
    err-still (λ x. HasCause x u w (next_save c.args.applied)) e c.from_residual.result c.from_residual.ensures.1 (read-cause e u w (next_save c.args.applied) c.in_err-held.ensures.cause)

pub returns-in_err-behind : goal.returns-in_err-behind
returns-in_err-behind g c = record {
  untouched = untouched_both c.read_save.ensures.untouched c.is_saved.ensures.untouched;
  save = if_ok_none _ _ c.from_residual-in_err-behind.result c.from_residual-in_err-behind.ensures.1;
  good = if_ok_none _ _ c.from_residual-in_err-behind.result c.from_residual-in_err-behind.ensures.1;
  cause = (
      let u = g.T.Tree.view c.args.tree.now in
      let v = g.T.Tree.view c.read_save.new.tree in
      let w = g.T.Tree.view c.is_saved.new.tree in
      let e = c.in_err-behind.field-0.0 in
      err-still (λ x. HasCause x u w (next_save c.args.applied)) e c.from_residual-in_err-behind.result c.from_residual-in_err-behind.ensures.1
      (cause-behind e u v w (next_save c.args.applied) c.read_save.ensures.untouched c.in_err-behind.ensures.cause));
}

pub returns-in_err-held-2 : goal.returns-in_err-held-2
returns-in_err-held-2 g c = record {
  untouched = untouched_both c.read_save.ensures.untouched c.is_saved.ensures.untouched;
  save = if_ok_none _ _ c.from_residual-in_err-held-2.result c.from_residual-in_err-held-2.ensures.1;
  good = if_ok_none _ _ c.from_residual-in_err-held-2.result c.from_residual-in_err-held-2.ensures.1;
  cause = (
      let u = g.T.Tree.view c.args.tree.now in
      let w = g.T.Tree.view c.is_saved.new.tree in
      let e = c.in_err-held-2.field-0.0 in
      err-still (λ x. HasCause x u w (next_save c.args.applied)) e c.from_residual-in_err-held-2.result c.from_residual-in_err-held-2.ensures.1
      (judged-cause e u w c.args.applied (option_map vec_items c.in_ok-held.held) c.in_ok-behind.behind c.in_ok-held.ensures.save (λ f told. c.in_ok-behind.ensures.there f (c.read_save.ensures.untouched.told ∙ told)) c.in_err-held-2.ensures.cause));
}

pub returns : goal.returns
returns g c = record {
  untouched = untouched_both c.read_save.ensures.untouched c.is_saved.ensures.untouched;
  save = (
      λ f told.
      next-is c.args.applied f (option_map vec_items c.in_ok-held.held) c.in_ok-behind.behind _ (c.in_ok-held.ensures.save f told) (c.in_ok-behind.ensures.there f (c.read_save.ensures.untouched.told ∙ told)) c.in_ok-held-2.ensures.good
      ∙ ap (λ h. save_if false (option_map vec_items h)) (sym c.in_ok-held-2.ensures.same));
  good = c.in_ok-held-2.ensures.fine;
  cause = tt;
}
