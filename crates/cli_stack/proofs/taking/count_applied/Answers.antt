use Rattle.std.proofs.Common.{ℕ, [], length, suc, refl, sym, ◌∙◌, ap, arith}
use Rattle.cli_tool_words.specs.declared.jobs.StackOp.TheVariants.{Applied}
use Rattle.cli_run_answers.specs.declared.why.Why.TheVariants.{Done}
use Rattle.cli_run_answers.specs.Answers.{of_run}
use Rattle.cli_run_answers.specs.Worlds.{world}
use Rattle.series_stack.specs.Stack.{undoing}
use Rattle.series_stack.specs.Outcomes.{recovered_text, tally}
use Rattle.stack_state.specs.Steps.{said_by}
use Rattle.stack_state.proofs.Stepping.{says_by}
use Rattle.cli_stack.specs.Command.{behind, on_op}
use Rattle.cli_stack.specs.Stages.{ended, why_by}
use Rattle.cli_stack.proofs.Coming.{comes_by, comes_is, comes_stop, comes_then, comes_why}
use Rattle.cli_stack.proofs.Standing.{stands}
use Rattle.cli_stack.proofs.Popped.{applied_is}
use Rattle.cli_stack.proofs.taking.count_applied.Goals as goal

pub recover-requires-clause-few : goal.recover-requires-clause-few
recover-requires-clause-few g c = omega (arith, c.requires.state.is.applied, c.requires.state.is.few)

pub recover-requires-clause-held : goal.recover-requires-clause-held
recover-requires-clause-held g c f told = (stands c.requires.state f told).held

pub returns-in-Ok : goal.returns-in-Ok
returns-in-Ok g c = record {
  comes = λ a. let s = c.args.state.now in
      let n = s.stack.applied in
      comes_is (on_op Applied)
      (λ f told. applied_is f s (stands c.requires.state f told) ∙ ap (λ (m : ℕ). behind (undoing (suc n) f) (recovered_text n (undoing (suc n) f)) (ended Done [] (tally n m))) (sym c.count.ensures))
      (comes_then {v = world (g.T.Tree.view c.recover.new.tree) a (g.O.Sink.view c.recover.new.out)} c.in-Ok.field-0 c.told.result (λ f. ended Done [] (tally n c.count.result)) c.in-Ok.ensures.steps refl
      (comes_why c.told.result (why_by Done (said_by c.say_tally.result)) c.told.ensures
      (comes_by (said_by c.say_tally.result) Done refl refl tt (says_by (g.T.Tree.view c.recover.new.tree) c.say_tally.result (tally n c.count.result) c.in-Ok.ensures.steps.quiet c.say_tally.ensures.writes) refl)));
  rest = g.met.O.Sink.rest_both _ _ _ c.recover.ensures.rest c.say_tally.ensures.rest;
}

pub returns-in-Err : goal.returns-in-Err
returns-in-Err g c = record {
  comes = λ a. let s = c.args.state.now in
      let n = s.stack.applied in
      comes_is (on_op Applied)
      (λ f told. applied_is f s (stands c.requires.state f told))
      (comes_why c.from.result (of_run c.in-Err.fault) c.from.ensures
      (comes_stop c.in-Err.fault (λ f. ended Done [] (tally n (length s.stack.patches.items))) c.in-Err.ensures.steps refl));
  rest = c.recover.ensures.rest;
}

pub count-requires : goal.count-requires
count-requires g c = c.requires.state.is.few

pub recover-requires-clause-good : goal.recover-requires-clause-good
recover-requires-clause-good g c = c.requires.state.good

pub recover-requires-clause-quiet : goal.recover-requires-clause-quiet
recover-requires-clause-quiet g c = c.requires.quiet
