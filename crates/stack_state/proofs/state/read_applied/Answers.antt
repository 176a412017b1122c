use Rattle.stack_state.specs.declared.fault.StateFault.TheVariants.{Bad}
use Rattle.series_stack.specs.declared.fault.StateFile.TheVariants.{Count}
use Rattle.outside.specs.Files.{Files}
use Rattle.stack_state.specs.Causes.{HasCause}
use Rattle.std.proofs.lemmas.Result.{IfErr-weaker, IfOk-weaker}
use Rattle.std.proofs.Common.{List, None, Ok, Some, ap, inr, option_map, sym, vec_items, ℕ, ◌∙◌, ◌≡◌}
use Rattle.stack_state.specs.Reading.{applied_in, numbered_in}
use Rattle.series_stack.specs.Stack.{count_in, count_name}
use Rattle.stack_state.proofs.Saving.{err-still, read-cause}
use Rattle.std.specs.FinMap.{get}
use Rattle.stack_state.proofs.Held.{text_cause}
use Rattle.stack_state.proofs.state.read_applied.Goals as goal

pub returns-in-Some : goal.returns-in-Some
returns-in-Some g c = record {
  untouched = c.read_whole.ensures.untouched;
  applied = (
      let u = g.T.Tree.view c.args.tree.now in
      let text = c.deref.result.now in
      IfOk-weaker c.counted.result (λ n. count_in c.args.most (Some text) ≡ Some n) (λ n. (f : Files) → u.told ≡ Some f → applied_in c.args.most (get f count_name) ≡ Ok n)
      (λ n is f told. ap (applied_in c.args.most) (ap (λ (n : List ℕ). get f n) (sym c.in_ok-name.ensures) ∙ c.in_ok-text.ensures.bytes f told ∙ ap (option_map vec_items) c.in-Some.is ∙ ap Some (sym c.deref.ensures.value)) ∙ ap numbered_in is)
      c.counted.ensures.count);
  few = c.counted.ensures.few;
  cause = (
      let u = g.T.Tree.view c.args.tree.now in
      let w = g.T.Tree.view c.read_whole.new.tree in
      let text = c.deref.result.now in
      IfErr-weaker c.counted.result (λ e. (e ≡ Bad Count) × (count_in c.args.most (Some text) ≡ None)) (λ e. HasCause e u w (λ f. applied_in c.args.most (get f count_name)))
      (λ e bad. text_cause e Count u w (λ f. applied_in c.args.most (get f count_name))
      (λ none f told. ap (applied_in c.args.most) (ap (λ (n : List ℕ). get f n) (sym c.in_ok-name.ensures) ∙ c.in_ok-text.ensures.bytes f told ∙ ap (option_map vec_items) c.in-Some.is ∙ ap Some (sym c.deref.ensures.value)) ∙ ap numbered_in none)
      (inr bad))
      c.counted.ensures.cause);
}

pub returns-clause-applied : goal.returns-clause-applied
returns-clause-applied g c = λ f told. ap (applied_in c.args.most) (ap (λ (n : List ℕ). get f n) (sym c.in_ok-name.ensures) ∙ c.in_ok-text.ensures.bytes f told ∙ ap (option_map vec_items) c.in-None.is)

pub returns-in_err-text-clause-cause : goal.returns-in_err-text-clause-cause
returns-in_err-text-clause-cause g c =
    let u = g.T.Tree.view c.args.tree.now in
    let w = g.T.Tree.view c.read_whole.new.tree in
    let e = c.in_err-text.field-0.0 in
    err-still (λ x. HasCause x u w (λ f. applied_in c.args.most (get f count_name))) e c.from_residual-in_err-text.result c.from_residual-in_err-text.ensures.1 (read-cause e u w (λ f. applied_in c.args.most (get f count_name)) c.in_err-text.ensures.cause)

pub returns-clause-untouched : goal.returns-clause-untouched
returns-clause-untouched g c = c.read_whole.ensures.untouched

pub returns-in_err-text-clause-untouched : goal.returns-in_err-text-clause-untouched
returns-in_err-text-clause-untouched g c = c.read_whole.ensures.untouched

pub returns-clause-cause : goal.returns-clause-cause
returns-clause-cause g c = tt
