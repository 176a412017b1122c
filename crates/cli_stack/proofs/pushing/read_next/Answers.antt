use Rattle.cli_tool_words.specs.declared.jobs.StackOp.TheVariants.{Push}
use Rattle.cli_stack.proofs.Standing.{starved}
use Rattle.outside.specs.Calls.{untouched_none}
use Rattle.cli_stack.proofs.pushing.read_next.Goals as goal

pub returns-in-Err : goal.returns-in-Err
returns-in-Err g c = record {
  refused = λ a b. starved Push _ _;
  untouched = untouched_none (g.T.Tree.view c.args.tree.now);
  next = tt;
}

pub returns-in-Ok : goal.returns-in-Ok
returns-in-Ok g c = record {
  untouched = c.read_from.ensures.untouched;
  refused = c.read_from.ensures.refused;
  next = c.read_from.ensures.next;
}

pub read_from-requires-clause-state : goal.read_from-requires-clause-state
read_from-requires-clause-state g c = c.requires.state

pub read_from-requires-clause-name : goal.read_from-requires-clause-name
read_from-requires-clause-name g c = c.requires.name
