use Rattle.stack_state.specs.declared.fault.StateFault.TheVariants.{Bad, Memory}
use Rattle.outside.specs.Files.{Files}
use Rattle.stack_state.specs.Causes.{HasCause}
use Rattle.std.proofs.lemmas.Result.{IfErr-weaker, IfOk-weaker}
use Rattle.std.proofs.Common.{List, None, Ok, Some, ap, option_map, sym, vec_items, ℕ, ◌∙◌, ◌≡◌, ◌⊎◌}
use Rattle.series_stack.specs.declared.fault.StateFile.TheVariants.{Series}
use Rattle.stack_state.proofs.Saving.{err-still, read-cause}
use Rattle.std.specs.FinMap.{get}
use Rattle.stack_state.specs.Reading.{listed_in, patches_in}
use Rattle.series_stack.specs.Stack.{series_name}
use Rattle.series_stack.specs.Series.{series_of}
use Rattle.stack_state.proofs.Held.{text_cause}
use Rattle.stack_state.proofs.state.read_patches.Goals as goal

pub returns-in-Some : goal.returns-in-Some
returns-in-Some g c = record {
  untouched = c.read_whole.ensures.untouched;
  patches = (
      let u = g.T.Tree.view c.args.tree.now in
      let text = c.deref.result.now in
      IfOk-weaker c.listed.result (λ names. series_of text ≡ Some names.items) (λ names. (f : Files) → u.told ≡ Some f → patches_in (get f series_name) ≡ Ok names.items)
      (λ names is f told. ap patches_in (ap (λ (n : List ℕ). get f n) (sym c.in_ok-name.ensures) ∙ c.in_ok-text.ensures.bytes f told ∙ ap (option_map vec_items) c.in-Some.is ∙ ap Some (sym c.deref.ensures.value)) ∙ ap listed_in is)
      c.listed.ensures.patches);
  few = c.listed.ensures.few;
  cause = (
      let u = g.T.Tree.view c.args.tree.now in
      let w = g.T.Tree.view c.read_whole.new.tree in
      let text = c.deref.result.now in
      IfErr-weaker c.listed.result (λ e. (e ≡ Memory) ⊎ ((e ≡ Bad Series) × (series_of text ≡ None))) (λ e. HasCause e u w (λ f. patches_in (get f series_name)))
      (λ e bad. text_cause e Series u w (λ f. patches_in (get f series_name))
      (λ none f told. ap patches_in (ap (λ (n : List ℕ). get f n) (sym c.in_ok-name.ensures) ∙ c.in_ok-text.ensures.bytes f told ∙ ap (option_map vec_items) c.in-Some.is ∙ ap Some (sym c.deref.ensures.value)) ∙ ap listed_in none)
      bad)
      c.listed.ensures.cause);
}

pub returns : goal.returns
returns g c = record {
  untouched = c.read_whole.ensures.untouched;
  patches = tt;
  few = tt;
  cause = λ f told. ap patches_in (ap (λ (n : List ℕ). get f n) (sym c.in_ok-name.ensures) ∙ c.in_ok-text.ensures.bytes f told ∙ ap (option_map vec_items) c.in-None.is);
}

pub returns-in_err-text-clause-cause : goal.returns-in_err-text-clause-cause
returns-in_err-text-clause-cause g c =
    let u = g.T.Tree.view c.args.tree.now in
    let w = g.T.Tree.view c.read_whole.new.tree in
    let e = c.in_err-text.field-0.0 in
    err-still (λ x. HasCause x u w (λ f. patches_in (get f series_name))) e c.from_residual-in_err-text.result c.from_residual-in_err-text.ensures.1 (read-cause e u w (λ f. patches_in (get f series_name)) c.in_err-text.ensures.cause)

pub returns-in_err-text-clause-untouched : goal.returns-in_err-text-clause-untouched
returns-in_err-text-clause-untouched g c = c.read_whole.ensures.untouched
