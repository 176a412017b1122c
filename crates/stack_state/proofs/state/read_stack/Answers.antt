use Rattle.outside.specs.Calls.{untouched_both}
use Rattle.stack_state.proofs.Stacking.{series_cause}
use Rattle.stack_state.specs.Causes.{HasCause}
use Rattle.std.proofs.lemmas.Result.{IfErr-weaker}
use Rattle.stack_state.proofs.Held.{cause_first, told_first}
use Rattle.series_stack.specs.Stack.{stack_of}
use Rattle.std.proofs.Common.{sym, ◌∙◌}
use Rattle.stack_state.proofs.state.read_stack.Goals as goal

pub returns-in-Ok : goal.returns-in-Ok
returns-in-Ok g c = record {
  untouched = untouched_both c.read_patches.ensures.untouched c.with_count.ensures.untouched;
  stack = told_first c.with_count.result (g.T.Tree.view c.args.tree.now) (g.T.Tree.view c.read_patches.new.tree) _ c.in-Ok.ensures.untouched c.with_count.ensures.stack;
  few = c.with_count.ensures.few;
  applied = c.with_count.ensures.applied;
  cause = (
      let u = g.T.Tree.view c.args.tree.now in
      let v = g.T.Tree.view c.read_patches.new.tree in
      let w = g.T.Tree.view c.with_count.new.tree in
      IfErr-weaker c.with_count.result (λ e. HasCause e v w stack_of) (λ e. HasCause e u w stack_of) (λ e h. cause_first e u v w stack_of c.in-Ok.ensures.untouched h) c.with_count.ensures.cause);
}

pub returns-in-Err-clause-cause : goal.returns-in-Err-clause-cause
returns-in-Err-clause-cause g c = series_cause c.in-Err.fault (g.T.Tree.view c.args.tree.now) (g.T.Tree.view c.read_patches.new.tree) c.in-Err.ensures.cause

pub with_count-requires-clause-listed : goal.with_count-requires-clause-listed
with_count-requires-clause-listed g c = λ f told. c.in-Ok.ensures.patches f (sym c.in-Ok.ensures.untouched.told ∙ told)

pub returns-in-Err-clause-untouched : goal.returns-in-Err-clause-untouched
returns-in-Err-clause-untouched g c = c.read_patches.ensures.untouched
