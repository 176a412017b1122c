use Rattle.std.proofs.Common.{◌≡◌, ℕ, ◌∷◌, ◌++◌, codes, drop, length, suc, ◌-◌, Ok, refl, sym, ◌∙◌, ap, arith}
use Rattle.outside.specs.Quiet.{after, after_all}
use Rattle.outside.proofs.Views.{untouched_quiet}
use Rattle.cli_tool_words.specs.declared.jobs.StackOp.TheVariants.{Pop}
use Rattle.cli_run_answers.specs.declared.why.Why.TheVariants.{Done}
use Rattle.cli_run_answers.specs.Answers.{of_run}
use Rattle.cli_run_answers.specs.Worlds.{world}
use Rattle.cli_run_answers.proofs.Opens.{opens_untouched}
use Rattle.series_stack.specs.Saves.{entries_of}
use Rattle.series_stack.specs.Stack.{save_name, undoing, undoing_by}
use Rattle.series_stack.specs.Outcomes.{lowering, recovered_text, said, tally}
use Rattle.cli_stack.specs.Command.{behind, on_op}
use Rattle.cli_stack.specs.Faults.{of_state}
use Rattle.cli_stack.specs.Stages.{ended, why_by}
use Rattle.cli_stack.proofs.Coming.{comes_by, comes_is, comes_stop, comes_then, comes_why}
use Rattle.cli_stack.proofs.Promising.{carries_behind, carries_early, carries_late}
use Rattle.cli_stack.proofs.Standing.{stands, state_on, stops_as}
use Rattle.cli_stack.proofs.Popped.{popped_is, there_after, last_of, last_on, last_stops, last_there, some_entries}
use Rattle.cli_stack.proofs.taking.take_saved.Goals as goal

pub returns-in-Err : goal.returns-in-Err
returns-in-Err g c = record {
  carries = λ a. let k = c.args.state.now.stack.applied in
      let some : k ≡ suc (k - 1) = omega (arith, c.requires.some) in
      carries_early Pop _ _ a _ c.of_state.result (opens_untouched c.read_last_save.ensures.untouched)
      (stops_as c.of_state.result (of_state c.in-Err.fault) c.of_state.ensures
      (last_stops c.in-Err.fault (g.T.Tree.view c.args.tree.now) (g.T.Tree.view c.read_last_save.new.tree) a (g.O.Sink.view c.args.out.now) c.args.state.now (k - 1) c.requires.state some c.in-Err.ensures.cause));
  rest = g.met.O.Sink.rest_none c.args.out.now;
}

pub returns-in-Ok-recover : goal.returns-in-Ok-recover
returns-in-Ok-recover g c =
    let s = c.args.state.now in
    let same = c.read_last_save.ensures.untouched in
    let state = state_on same c.requires.state in
    let n = s.stack.applied - 1 in
    let some : s.stack.applied ≡ suc n = omega (arith, c.requires.some) in
    let save = c.deref.result.now in
    let es = entries_of save in
    let text = λ (m : ℕ). said (codes "Removing patch ") c.last_name.result.now ++ tally n m in record {
      carries = λ a. carries_behind (Ok Pop) _ _ a _ (opens_untouched same) _ _ (carries_late Pop _ _ _ (λ never. refl)
          (comes_is (on_op Pop)
          (λ f told. popped_is f s (stands state f told) n some c.last_name.result.now (drop s.stack.applied s.stack.patches.items) c.last_name.ensures save (last_on same s.stack.applied c.in-Ok.save.items save c.deref.ensures.value c.in-Ok.ensures.save f told)
          ∙ ap (λ (m : ℕ). behind (undoing (suc s.stack.applied) f) (recovered_text s.stack.applied (undoing (suc s.stack.applied) f)) (ended Done (lowering n ∷ undoing_by (save_name (suc n)) es (after (lowering n) (after_all (undoing (suc s.stack.applied) f) f))) (text m))) (sym c.count.ensures))
          (comes_then {v = world (g.T.Tree.view c.recover.new.tree) a (g.O.Sink.view c.recover.new.out)} c.in-Ok-recover.field-0 c.done.result (λ f. ended Done (lowering n ∷ undoing_by (save_name (suc n)) es (after (lowering n) f)) (text c.count.result)) c.in-Ok-recover.ensures.steps refl
          (comes_why c.done.result (why_by Done c.take_back.result) c.done.ensures
          (comes_by c.take_back.result Done refl refl tt c.take_back.ensures.steps refl)))));
      rest = g.met.O.Sink.rest_both _ _ _ c.recover.ensures.rest c.take_back.ensures.rest;
    }

pub returns : goal.returns
returns g c =
    let s = c.args.state.now in
    let same = c.read_last_save.ensures.untouched in
    let state = state_on same c.requires.state in
    let n = s.stack.applied - 1 in
    let some : s.stack.applied ≡ suc n = omega (arith, c.requires.some) in
    let name = last_of s.stack.patches.items n in
    let save = c.in-Ok.save.items in record {
      carries = λ a. carries_behind (Ok Pop) _ _ a _ (opens_untouched same) _ _ (carries_late Pop _ _ _ (λ never. refl)
          (comes_is (on_op Pop)
          (λ f told. popped_is f s (stands state f told) n some name (drop s.stack.applied s.stack.patches.items) (last_there s.stack.patches.items n s.stack.applied some c.requires.state.is.applied) save (last_on same s.stack.applied save save refl c.in-Ok.ensures.save f told))
          (comes_why c.from.result (of_run c.in-Err-recover.fault) c.from.ensures
          (comes_stop c.in-Err-recover.fault (λ f. ended Done (lowering n ∷ undoing_by (save_name (suc n)) (entries_of save) (after (lowering n) (after_all (undoing (suc s.stack.applied) f) f))) (said (codes "Removing patch ") name ++ tally n (length s.stack.patches.items))) c.in-Err-recover.ensures.steps refl))));
      rest = c.recover.ensures.rest;
    }

pub recover-requires-clause-few : goal.recover-requires-clause-few
recover-requires-clause-few g c = omega (arith, c.requires.state.is.applied, c.requires.state.is.few)

pub recover-requires-clause-held : goal.recover-requires-clause-held
recover-requires-clause-held g c f told = (stands (state_on c.read_last_save.ensures.untouched c.requires.state) f told).held

pub recover-requires-clause-good : goal.recover-requires-clause-good
recover-requires-clause-good g c = c.requires.state.good

pub recover-requires-clause-quiet : goal.recover-requires-clause-quiet
recover-requires-clause-quiet g c = untouched_quiet c.read_last_save.ensures.untouched c.requires.quiet

pub take_back-requires-clause-there : goal.take_back-requires-clause-there
take_back-requires-clause-there g c =
    let s = c.args.state.now in
    let same = c.read_last_save.ensures.untouched in
    let some : s.stack.applied ≡ suc (s.stack.applied - 1) = omega (arith, c.requires.some) in
    let save = c.deref.result.now in
    there_after s (s.stack.applied - 1) some c.last_name.result.now (drop s.stack.applied s.stack.patches.items) c.last_name.ensures save c.in-Ok-recover.field-0 (state_on same c.requires.state)
    (last_on same s.stack.applied c.in-Ok.save.items save c.deref.ensures.value c.in-Ok.ensures.save) c.in-Ok-recover.ensures.steps

pub take_back-requires-clause-few : goal.take_back-requires-clause-few
take_back-requires-clause-few g c = omega (arith, c.requires.state.is.applied, c.requires.state.is.few)

pub take_back-requires-clause-save : goal.take_back-requires-clause-save
take_back-requires-clause-save g c = some_entries c.in-Ok.save.items c.deref.result.now c.deref.ensures.value c.in-Ok.ensures.form

pub take_back-requires-clause-quiet : goal.take_back-requires-clause-quiet
take_back-requires-clause-quiet g c = c.in-Ok-recover.ensures.steps.quiet

pub last_name-requires-clause-some : goal.last_name-requires-clause-some
last_name-requires-clause-some g c = c.requires.some

pub last_name-requires-clause-applied : goal.last_name-requires-clause-applied
last_name-requires-clause-applied g c = c.requires.state.is.applied

pub overflow_sub-stack : goal.overflow_sub-stack
overflow_sub-stack g c = c.requires.some

pub count-requires : goal.count-requires
count-requires g c = c.requires.state.is.few
