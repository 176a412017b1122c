use Rattle.std.proofs.Common.{Ok, Err, List, ℕ, [], ◌∷◌, suc, refl, sym, ◌∙◌, subst, arith}
use Rattle.outside.specs.Quiet.{after}
use Rattle.outside.specs.Quiet.Effect.{Put}
use Rattle.outside.proofs.Views.{untouched_quiet}
use Rattle.patch_options.specs.PlainJob.{PlainOptions}
use Rattle.patch_run.specs.Finishes.{CanApply, Finishes}
use Rattle.cli_run_answers.specs.Answers.{of_run}
use Rattle.cli_run_answers.specs.Worlds.{world}
use Rattle.series_stack.specs.Saves.{entries_of}
use Rattle.series_stack.specs.Stack.{save_name}
use Rattle.series_stack.specs.Taking.{AreSaved}
use Rattle.stack_state.specs.Steps.{Steps}
use Rattle.cli_stack.specs.Faults.{of_save}
use Rattle.cli_stack.specs.Stages.{on_said, on_saved}
use Rattle.cli_stack.specs.States.{stage_of}
use Rattle.stack_state.proofs.Restoring.{put_there}
use Rattle.stack_state.proofs.Stepping.{one_more}
use Rattle.cli_stack.proofs.Coming.{comes_is, comes_stop, comes_then, comes_untouched, comes_why}
use Rattle.cli_stack.proofs.Pushed.{said_stage, save_fails}
use Rattle.cli_stack.proofs.Running.{has_cut, run_closes, still_saved}
use Rattle.cli_stack.proofs.pushing.push_said.Goals as goal

pub returns-in-Err : goal.returns-in-Err
returns-in-Err g c = record {
  comes = comes_why c.of_save.result (of_save c.in-Err.fault) c.of_save.ensures
      (save_fails c.in-Err.fault c.args.next.now.set (stage_of c.args.state.now c.args.name.now) c.deref.result.now (c.deref.ensures.value ∙ c.requires.names) c.take_names.ensures.untouched c.requires.quiet c.in-Err.ensures.cause);
  rest = g.met.O.Sink.rest_none c.args.out.now;
}

pub returns-in-Err-put_save : goal.returns-in-Err-put_save
returns-in-Err-put_save g c =
    let set = c.args.next.now.set in
    let s = stage_of c.args.state.now c.args.name.now in
    let t = g.T.Tree.view c.take_names.new.tree in
    let o = g.O.Sink.view c.args.out.now in
    let save = c.as_slice-save.result.now in
    let named = c.deref.ensures.value ∙ c.requires.names in record {
      comes = comes_is (on_said set s)
          (λ f told. said_stage set s c.deref.result.now save c.in-Ok.taken.items f named c.as_slice-save.ensures.value (subst (λ (l : List (List ℕ)). AreSaved l) (sym named) c.requires.can.saved) (c.in-Ok.ensures.short f told) (c.in-Ok.ensures.save f told))
          (comes_untouched c.take_names.ensures.untouched c.requires.quiet
          (comes_why c.from.result (of_run c.in-Err-put_save.fault) c.from.ensures
          (comes_stop c.in-Err-put_save.fault (λ f. on_saved set s (entries_of save) (after (Put (save_name (suc c.args.state.now.stack.applied)) save) f))
          (one_more (λ k. Steps {R = Unit {0}} t (g.T.Tree.view c.put_save.new.tree) o o (Err c.in-Err-put_save.fault) (λ f. Put (save_name k) save ∷ []) (λ f. [])) c.args.state.now.stack.applied (c.in-Err-put_save.ensures o)) refl)));
      rest = g.met.O.Sink.rest_none c.args.out.now;
    }

pub returns : goal.returns
returns g c =
    let set = c.args.next.now.set in
    let s = stage_of c.args.state.now c.args.name.now in
    let t = g.T.Tree.view c.take_names.new.tree in
    let o = g.O.Sink.view c.args.out.now in
    let save = c.as_slice-save.result.now in
    let named = c.deref.ensures.value ∙ c.requires.names in
    let u = world (g.T.Tree.view c.put_save.new.tree) (g.C.Scratch.view c.args.scratch) o in
    let v = world (g.T.Tree.view c.apply-ended.new.tree) (g.C.Scratch.view c.apply-ended.result.1) (g.O.Sink.view c.apply-ended.new.out) in
    let w = world (g.T.Tree.view c.close.new.tree) (g.C.Scratch.view c.apply-ended.result.1) (g.O.Sink.view c.close.new.out) in
    let steps = one_more (λ k. Steps t u.tree o o (Ok c.in-Ok-put_save.field-0) (λ f. Put (save_name k) save ∷ []) (λ f. [])) c.args.state.now.stack.applied (c.in-Ok-put_save.ensures o) in record {
      comes = comes_is (on_said set s)
          (λ f told. said_stage set s c.deref.result.now save c.in-Ok.taken.items f named c.as_slice-save.ensures.value (subst (λ (l : List (List ℕ)). AreSaved l) (sym named) c.requires.can.saved) (c.in-Ok.ensures.short f told) (c.in-Ok.ensures.save f told))
          (comes_untouched c.take_names.ensures.untouched c.requires.quiet
          (comes_then {v = u} c.in-Ok-put_save.field-0 c.close.result (on_saved set s (entries_of save)) steps refl
          (run_closes {u = u} {v = v} {w = w} set s save c.close.result c.apply-ended.result.0 (rw c.as_slice-save.ensures.value (c.in-Ok.ensures.form (rw (c.deref.ensures.value, c.requires.names) c.requires.can.saved)))
          (λ f told far. still_saved u v set s c.requires.can (put_there c.in-Ok-put_save.field-0 (suc c.args.state.now.stack.applied) save steps) f told.files far)
          (subst (λ (o : PlainOptions). Finishes o set u.tree v.tree u.scratch v.scratch u.out v.out c.apply-ended.result.0) c.push_options-options.ensures c.apply-ended.ensures.finishes)
          refl (c.close.ensures.closes (g.C.Scratch.view c.apply-ended.result.1)))));
      rest = g.met.O.Sink.rest_both _ _ _ c.apply-ended.ensures.rest c.close.ensures.rest;
    }

pub apply-ended-requires-clause-can : goal.apply-ended-requires-clause-can
apply-ended-requires-clause-can g c = subst (λ (o : PlainOptions). CanApply o c.args.next.now.set) (sym c.push_options-options.ensures) c.requires.can.can

pub apply-ended-requires-clause-quiet : goal.apply-ended-requires-clause-quiet
apply-ended-requires-clause-quiet g c = (c.in-Ok-put_save.ensures (g.O.Sink.view c.args.out.now)).quiet

pub close-requires-clause-few : goal.close-requires-clause-few
close-requires-clause-few g c = c.requires.few

pub close-requires-clause-applied : goal.close-requires-clause-applied
close-requires-clause-applied g c = c.requires.applied

pub close-requires-clause-save : goal.close-requires-clause-save
close-requires-clause-save g c = rw c.as_slice-save.ensures.value (c.in-Ok.ensures.form (rw (c.deref.ensures.value, c.requires.names) c.requires.can.saved))

pub close-requires-clause-quiet : goal.close-requires-clause-quiet
close-requires-clause-quiet g c = c.apply-ended.ensures.finishes.quiet

pub close-requires-clause-cut : goal.close-requires-clause-cut
close-requires-clause-cut g c =
    let set = c.args.next.now.set in
    let u = world (g.T.Tree.view c.put_save.new.tree) (g.C.Scratch.view c.args.scratch) (g.O.Sink.view c.args.out.now) in
    let v = world (g.T.Tree.view c.apply-ended.new.tree) (g.C.Scratch.view c.apply-ended.result.1) (g.O.Sink.view c.apply-ended.new.out) in
    has_cut {u = u} {v = v} set c.apply-ended.result.0
    (subst (λ (o : PlainOptions). Finishes o set u.tree v.tree u.scratch v.scratch u.out v.out c.apply-ended.result.0) c.push_options-options.ensures c.apply-ended.ensures.finishes)

pub put_save-requires : goal.put_save-requires
put_save-requires g c = record { quiet = untouched_quiet c.take_names.ensures.untouched c.requires.quiet }

pub overflow_add-state : goal.overflow_add-state
overflow_add-state g c = omega (arith, c.requires.applied)
