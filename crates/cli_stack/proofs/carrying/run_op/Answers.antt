use Rattle.std.proofs.Common.{Ok, refl}
use Rattle.outside.proofs.Views.{untouched_quiet}
use Rattle.cli_run_answers.proofs.Opens.{opens_untouched}
use Rattle.cli_stack.proofs.Promising.{carries_behind, carries_early, settle_carry}
use Rattle.cli_stack.proofs.Standing.{state_on}
use Rattle.cli_stack.proofs.carrying.run_op.Goals as goal

pub run_state-ended-requires-clause-state : goal.run_state-ended-requires-clause-state
run_state-ended-requires-clause-state g c = state_on c.read_state.ensures.untouched c.in-Ok-read_state.ensures.state

pub run_state-ended-requires-clause-quiet : goal.run_state-ended-requires-clause-quiet
run_state-ended-requires-clause-quiet g c = untouched_quiet c.read_state.ensures.untouched c.in-Ok.ensures.quiet

pub returns-in-Ok-read_state : goal.returns-in-Ok-read_state
returns-in-Ok-read_state g c = record {
  carries = carries_behind (Ok c.args.op) _ _ _ _ c.settle.ensures.opens _ _
      (carries_behind (Ok c.args.op) _ _ _ _ (opens_untouched c.read_state.ensures.untouched) _ _ c.run_state-ended.ensures.carries);
  scratch = c.run_state-ended.ensures.scratch;
  rest = c.run_state-ended.ensures.rest;
}

pub returns-in-Err-read_state : goal.returns-in-Err-read_state
returns-in-Err-read_state g c = record {
  carries = carries_behind (Ok c.args.op) _ _ _ _ c.settle.ensures.opens _ _
      (carries_early c.args.op _ _ _ _ c.in-Err-read_state.why (opens_untouched c.read_state.ensures.untouched) (c.in-Err-read_state.ensures.refused c.args.op _ _));
  scratch = λ never. refl;
  rest = g.met.O.Sink.rest_none c.args.out.now;
}

pub returns-in-Err : goal.returns-in-Err
returns-in-Err g c = record {
  carries = settle_carry (Ok c.args.op) _ _ _ _ c.in-Err.why c.settle.ensures.opens c.in-Err.ensures.cause.0 c.in-Err.ensures.cause.1;
  rest = g.met.O.Sink.rest_none c.args.out.now;
  scratch = λ never. refl;
}
