use Rattle.std.proofs.Common.{codes, suc, refl, arith}
use Rattle.outside.specs.Quiet.{after_all}
use Rattle.apply_task.specs.declared.fault.RunFault.TheVariants.{Write}
use Rattle.cli_run_answers.specs.Answers.{of_run}
use Rattle.cli_run_answers.specs.Worlds.{world}
use Rattle.series_stack.specs.Outcomes.{said}
use Rattle.series_stack.specs.Stack.{undoing}
use Rattle.stack_state.proofs.Stepping.{says, says_not}
use Rattle.cli_stack.specs.Command.{on_op}
use Rattle.cli_stack.specs.Stages.{on_recovered, on_said}
use Rattle.cli_stack.specs.States.{stage_of}
use Rattle.cli_stack.proofs.Coming.{comes_is, comes_stop, comes_then, comes_why}
use Rattle.cli_stack.proofs.Standing.{stands}
use Rattle.cli_stack.proofs.Pushed.{pushed_is}
use Rattle.cli_tool_words.specs.declared.jobs.StackOp.TheVariants.{Push}
use Rattle.cli_stack.proofs.pushing.push_next.Goals as goal

pub recover-requires-clause-few : goal.recover-requires-clause-few
recover-requires-clause-few g c = omega (arith, c.requires.state.is.applied, c.requires.state.is.few)

pub recover-requires-clause-held : goal.recover-requires-clause-held
recover-requires-clause-held g c f told = (stands c.requires.state f told).held

pub recover-requires-clause-good : goal.recover-requires-clause-good
recover-requires-clause-good g c = c.requires.state.good

pub recover-requires-clause-quiet : goal.recover-requires-clause-quiet
recover-requires-clause-quiet g c = c.requires.quiet

pub push_said-requires-clause-few : goal.push_said-requires-clause-few
push_said-requires-clause-few g c = c.requires.state.is.few

pub push_said-requires-clause-applied : goal.push_said-requires-clause-applied
push_said-requires-clause-applied g c = omega (arith, c.requires.state.is.applied, c.requires.state.is.few)

pub push_said-requires-clause-can : goal.push_said-requires-clause-can
push_said-requires-clause-can g c = c.requires.next.can

pub push_said-requires-clause-names : goal.push_said-requires-clause-names
push_said-requires-clause-names g c = c.requires.next.names

pub push_said-requires-clause-quiet : goal.push_said-requires-clause-quiet
push_said-requires-clause-quiet g c = c.in-Ok.ensures.steps.quiet

pub returns-in-Ok-say_applying : goal.returns-in-Ok-say_applying
returns-in-Ok-say_applying g c =
    let set = c.args.next.now.set in
    let s = stage_of c.args.state.now c.args.name.now in
    let t = g.T.Tree.view c.recover.new.tree in
    let a = g.C.Scratch.view c.args.scratch in
    let w = world (g.T.Tree.view c.push_said.new.tree) (g.C.Scratch.view c.push_said.result.1) (g.O.Sink.view c.push_said.new.out) in record {
      comes = comes_is (on_op Push)
          (λ f told. pushed_is c.args.state.now c.args.name.now set c.args.next.now.names.items c.requires.next c.requires.name c.requires.state f told)
          (comes_then {v = world t a (g.O.Sink.view c.recover.new.out)} {w = w} c.in-Ok.field-0 c.push_said.result.0 (on_recovered set s) c.in-Ok.ensures.steps refl
          (comes_then {v = world t a (g.O.Sink.view c.say_applying.new.out)} {w = w} c.in-Ok-say_applying.field-0 c.push_said.result.0 (on_said set s)
          (says t c.in-Ok-say_applying.field-0 c.in-Ok-say_applying.field-0 (said (codes "Applying patch ") c.args.name.now) c.in-Ok.ensures.steps.quiet c.in-Ok-say_applying.ensures.writes) refl c.push_said.ensures.comes));
      rest = g.met.O.Sink.rest_both _ _ _ c.recover.ensures.rest (g.met.O.Sink.rest_both _ _ _ c.say_applying.ensures.rest c.push_said.ensures.rest);
    }

pub returns-in-Err-say_applying : goal.returns-in-Err-say_applying
returns-in-Err-say_applying g c =
    let set = c.args.next.now.set in
    let s = stage_of c.args.state.now c.args.name.now in
    let t = g.T.Tree.view c.recover.new.tree in record {
      comes = comes_is (on_op Push)
          (λ f told. pushed_is c.args.state.now c.args.name.now set c.args.next.now.names.items c.requires.next c.requires.name c.requires.state f told)
          (comes_then {v = world t (g.C.Scratch.view c.args.scratch) (g.O.Sink.view c.recover.new.out)} c.in-Ok.field-0 (of_run Write) (on_recovered set s) c.in-Ok.ensures.steps refl
          (comes_stop {R = Unit {0}} Write (on_said set s)
          (says_not t c.in-Err-say_applying.field-0 (said (codes "Applying patch ") c.args.name.now) c.in-Ok.ensures.steps.quiet c.in-Err-say_applying.ensures.writes) refl));
      rest = g.met.O.Sink.rest_both _ _ _ c.recover.ensures.rest c.say_applying.ensures.rest;
    }

pub returns-in-Err : goal.returns-in-Err
returns-in-Err g c = record {
  comes = comes_is (on_op Push)
      (λ f told. pushed_is c.args.state.now c.args.name.now c.args.next.now.set c.args.next.now.names.items c.requires.next c.requires.name c.requires.state f told)
      (comes_why c.from.result (of_run c.in-Err.fault) c.from.ensures
      (comes_stop c.in-Err.fault (λ f. on_recovered c.args.next.now.set (stage_of c.args.state.now c.args.name.now) (after_all (undoing (suc c.args.state.now.stack.applied) f) f)) c.in-Err.ensures.steps refl));
  rest = c.recover.ensures.rest;
}
