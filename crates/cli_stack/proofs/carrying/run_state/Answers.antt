use Rattle.std.proofs.Common.{refl}
use Rattle.cli_tool_words.specs.declared.jobs.StackOp.TheVariants.{Applied}
use Rattle.cli_stack.proofs.Promising.{carries_late}
use Rattle.cli_stack.proofs.carrying.run_state.Goals as goal

pub returns-in-Push : goal.returns-in-Push
returns-in-Push g c = record {
  carries = rw c.in-Push.is c.apply_next.ensures.carries;
  scratch = λ never. absurd (never (rw c.in-Push.is tt));
  rest = c.apply_next.ensures.rest;
}

pub returns-in-Pop : goal.returns-in-Pop
returns-in-Pop g c = record {
  carries = rw c.in-Pop.is (c.take_last.ensures.carries (g.C.Scratch.view c.args.scratch));
  scratch = λ never. refl;
  rest = c.take_last.ensures.rest;
}

pub returns-in-Applied : goal.returns-in-Applied
returns-in-Applied g c = record {
  carries = rw c.in-Applied.is (carries_late Applied _ _ _ (λ never. refl) (c.count_applied.ensures.comes (g.C.Scratch.view c.args.scratch)));
  scratch = λ never. refl;
  rest = c.count_applied.ensures.rest;
}

pub count_applied-requires-clause-state : goal.count_applied-requires-clause-state
count_applied-requires-clause-state g c = c.requires.state

pub count_applied-requires-clause-quiet : goal.count_applied-requires-clause-quiet
count_applied-requires-clause-quiet g c = c.requires.quiet

pub apply_next-requires-clause-state : goal.apply_next-requires-clause-state
apply_next-requires-clause-state g c = c.requires.state

pub apply_next-requires-clause-quiet : goal.apply_next-requires-clause-quiet
apply_next-requires-clause-quiet g c = c.requires.quiet

pub take_last-requires-clause-state : goal.take_last-requires-clause-state
take_last-requires-clause-state g c = c.requires.state

pub take_last-requires-clause-quiet : goal.take_last-requires-clause-quiet
take_last-requires-clause-quiet g c = c.requires.quiet
