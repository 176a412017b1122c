use Rattle.stack_state.specs.Causes.{HasReadCause}
use Rattle.std.proofs.Common.{List, ap, sym, ℕ, ◌∙◌}
use Rattle.stack_state.proofs.Saving.{err-still}
use Rattle.std.specs.FinMap.{get}
use Rattle.stack_state.proofs.saves.read_save.Goals as goal

pub returns : goal.returns
returns g c = record {
  untouched = c.read_whole.ensures.untouched;
  save = λ f told. ap (λ (n : List ℕ). get f n) (sym c.in_ok-name.ensures) ∙ c.in_ok-held.ensures.bytes f told;
  cause = tt;
}

pub returns-in_err-held-clause-cause : goal.returns-in_err-held-clause-cause
returns-in_err-held-clause-cause g c = err-still (λ e. HasReadCause e (g.T.Tree.view c.args.tree.now) (g.T.Tree.view c.read_whole.new.tree)) c.in_err-held.field-0.0 c.from_residual-in_err-held.result c.from_residual-in_err-held.ensures.1 c.in_err-held.ensures.cause

pub returns-in_err-held-clause-untouched : goal.returns-in_err-held-clause-untouched
returns-in_err-held-clause-untouched g c = c.read_whole.ensures.untouched
