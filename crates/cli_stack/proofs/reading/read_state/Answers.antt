use Rattle.std.proofs.Common.{Err, arith}
use Rattle.outside.specs.Calls.{untouched_both}
use Rattle.cli_stack.specs.Faults.{of_state}
use Rattle.cli_stack.specs.States.{IsStack}
use Rattle.cli_stack.proofs.Standing.{save_stops, stack_on, stack_stops, state_back, stops_as, stops_before}
use Rattle.cli_stack.proofs.reading.read_state.Goals as goal

pub read_next_save-requires : goal.read_next_save-requires
read_next_save-requires g c = omega (arith, c.in-Ok.ensures.applied, c.in-Ok.ensures.few)

pub returns-in-Ok-read_next_save : goal.returns-in-Ok-read_next_save
returns-in-Ok-read_next_save g c =
    let same = c.read_stack.ensures.untouched in
    let stack : IsStack (g.T.Tree.view c.args.tree.now) c.in-Ok.stack = record { few = c.in-Ok.ensures.few; applied = c.in-Ok.ensures.applied; stack = c.in-Ok.ensures.stack } in record {
      untouched = untouched_both same c.read_next_save.ensures.untouched;
      state = state_back same (record { is = stack_on {s = c.in-Ok.stack} same stack; good = c.in-Ok-read_next_save.ensures.good; next = c.in-Ok-read_next_save.ensures.save });
      refused = tt;
    }

pub returns-in-Err-read_next_save : goal.returns-in-Err-read_next_save
returns-in-Err-read_next_save g c =
    let same = c.read_stack.ensures.untouched in
    let t = g.T.Tree.view c.read_stack.new.tree in
    let u = g.T.Tree.view c.read_next_save.new.tree in
    let stack : IsStack (g.T.Tree.view c.args.tree.now) c.in-Ok.stack = record { few = c.in-Ok.ensures.few; applied = c.in-Ok.ensures.applied; stack = c.in-Ok.ensures.stack } in record {
      untouched = untouched_both same c.read_next_save.ensures.untouched;
      state = tt;
      refused = stops_before (g.T.Tree.view c.args.tree.now) t u same (Err c.of_state.result)
          (λ op a b. stops_as c.of_state.result (of_state c.in-Err-read_next_save.fault) c.of_state.ensures
          (save_stops c.in-Err-read_next_save.fault op t u a b c.in-Ok.stack (stack_on {s = c.in-Ok.stack} same stack) c.in-Err-read_next_save.ensures.cause));
    }

pub returns-in-Err : goal.returns-in-Err
returns-in-Err g c = record {
  refused = λ op a b. stops_as c.of_state-in-Err.result (of_state c.in-Err.fault) c.of_state-in-Err.ensures
      (stack_stops c.in-Err.fault op (g.T.Tree.view c.args.tree.now) (g.T.Tree.view c.read_stack.new.tree) a b c.in-Err.ensures.cause);
  untouched = c.read_stack.ensures.untouched;
  state = tt;
}
