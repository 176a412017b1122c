use Rattle.outside.specs.Calls.{untouched_both}
use Rattle.series_stack.specs.Taking.{HasEntryCause}
use Rattle.std.proofs.lemmas.Result.{IfErr-weaker, on_ok_weaker}
use Rattle.std.proofs.Common.{List, Option, ap, refl, subst, sym, ℕ, ◌++◌, ◌<◌, ◌^◌, ◌∙◌}
use Rattle.series_stack.specs.Saves.Entry.{Missing}
use Rattle.series_stack.proofs.Taking.{cause_first, fault_kept, held_long, held_there, none_short, none_there}
use Rattle.series_stack.specs.Saves.{entry_text}
use Rattle.series_stack.specs.Found.{entry_with}
use Rattle.std.specs.FinMap.{get}
use Rattle.outside.proofs.Exits.{on_ok_none}
use Rattle.series_stack.specs.declared.fault.StackFault.TheVariants.{Memory}
use Rattle.series_stack.proofs.take.add_entry.Goals as goal

pub returns-in-Ok-Some : goal.returns-in-Ok-Some
returns-in-Ok-Some g c = record {
  untouched = untouched_both c.size.ensures.untouched c.add_file.ensures.untouched;
  entry = (
      let size = c.in-Ok-Some in
      let name = c.args.name.now in
      on_ok_weaker c.add_file.result
      (λ added f told. added f (size.ensures.untouched.told ∙ told) ∙ ap (λ (o : Option (List ℕ)). c.args.text.now.items ++ entry_text (entry_with name o)) (sym (held_there (get f name) size.size (sym size.field-0-is ∙ size.ensures.size f told))))
      c.add_file.ensures.entry);
  short = (
      let size = c.in-Ok-Some in
      on_ok_weaker c.add_file.result
      (λ small f told. subst (λ n. n < 2 ^ 32) (held_long (get f c.args.name.now) size.size (sym size.field-0-is ∙ size.ensures.size f told)) small)
      c.add_file.ensures.short);
  form = c.add_file.ensures.form;
  cause = (
      let u = g.T.Tree.view c.args.tree.now in
      let v = g.T.Tree.view c.size.new.self in
      let w = g.T.Tree.view c.add_file.new.tree in
      let name = c.args.name.now in
      IfErr-weaker c.add_file.result (λ e. HasEntryCause e v w name) (λ e. HasEntryCause e u w name) (λ e h. cause_first u v w name e c.in-Ok-Some.ensures.untouched h) c.add_file.ensures.cause);
}

pub returns-in_ok-add_missing-in-Ok-None : goal.returns-in_ok-add_missing-in-Ok-None
returns-in_ok-add_missing-in-Ok-None g c = record {
  untouched = c.size.ensures.untouched;
  entry = (
      λ f told.
      let size = c.in-Ok-None in
      let name = c.args.name.now in
      c.in_ok-add_missing-in-Ok-None.ensures ∙ ap (λ (o : Option (List ℕ)). c.args.text.now.items ++ entry_text (entry_with name o)) (none_there (get f name) (sym size.field-0-is ∙ size.ensures.size f told)));
  short = (
      λ f told.
      let size = c.in-Ok-None in
      none_short (get f c.args.name.now) (sym size.field-0-is ∙ size.ensures.size f told));
  form = record { entry = Missing c.args.name.now; named = refl; short = tt; text = c.in_ok-add_missing-in-Ok-None.ensures };
  cause = tt;
}

pub returns-in-Err-clause-cause : goal.returns-in-Err-clause-cause
returns-in-Err-clause-cause g c = c.in-Err.ensures.call.cause refl

pub add_file-requires-clause-long : goal.add_file-requires-clause-long
add_file-requires-clause-long g c = λ f told.
    let size = c.in-Ok-Some in
    held_long (get f c.args.name.now) size.size (sym size.field-0-is ∙ size.ensures.size f (sym size.ensures.untouched.told ∙ told))

pub add_file-requires-clause-size : goal.add_file-requires-clause-size
add_file-requires-clause-size g c = λ f told.
    let size = c.in-Ok-Some in
    held_there (get f c.args.name.now) size.size (sym size.field-0-is ∙ size.ensures.size f (sym size.ensures.untouched.told ∙ told))

pub returns-in-Err-clause-untouched : goal.returns-in-Err-clause-untouched
returns-in-Err-clause-untouched g c = c.in-Err.ensures.untouched

pub returns-in_err-add_missing-in-Ok-None-clause-cause : goal.returns-in_err-add_missing-in-Ok-None-clause-cause
returns-in_err-add_missing-in-Ok-None-clause-cause g c = fault_kept (λ e. HasEntryCause e (g.T.Tree.view c.args.tree.now) (g.T.Tree.view c.size.new.self) c.args.name.now) c.from_residual.result Memory c.from_residual.ensures.1 tt

pub returns-in_err-add_missing-in-Ok-None-clause-entry : goal.returns-in_err-add_missing-in-Ok-None-clause-entry
returns-in_err-add_missing-in-Ok-None-clause-entry g c = on_ok_none _ _ c.from_residual.result c.from_residual.ensures.1

pub returns-in_err-add_missing-in-Ok-None-clause-untouched : goal.returns-in_err-add_missing-in-Ok-None-clause-untouched
returns-in_err-add_missing-in-Ok-None-clause-untouched g c = c.size.ensures.untouched
