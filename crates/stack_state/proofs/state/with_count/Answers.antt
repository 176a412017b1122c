use Rattle.std.proofs.Common.{List, length, ◌∙◌, ap, subst, ℕ, ◌≤◌}
use Rattle.stack_state.proofs.Stacking.{count_cause, stack_read}
use Rattle.stack_state.proofs.state.with_count.Goals as goal

pub returns-in-Ok-clause-stack : goal.returns-in-Ok-clause-stack
returns-in-Ok-clause-stack g c = λ f told.
    stack_read (g.T.Tree.view c.args.tree.now) c.args.patches.items c.count-most.result (c.count-most.ensures ∙ ap length c.deref.ensures.value) c.requires.listed c.in-Ok.applied f told (c.in-Ok.ensures.applied f told)

pub returns-in-Err-clause-cause : goal.returns-in-Err-clause-cause
returns-in-Err-clause-cause g c =
    count_cause (g.T.Tree.view c.args.tree.now) c.args.patches.items c.count-most.result (c.count-most.ensures ∙ ap length c.deref.ensures.value) c.requires.listed c.in-Err.fault (g.T.Tree.view c.read_applied.new.tree) c.in-Err.ensures.cause

pub returns-in-Ok-clause-applied : goal.returns-in-Ok-clause-applied
returns-in-Ok-clause-applied g c = subst (λ n. c.in-Ok.applied ≤ n) (c.count-most.ensures ∙ ap (λ (l : List (List ℕ)). length l) c.deref.ensures.value) c.in-Ok.ensures.few

pub returns-in-Ok-clause-few : goal.returns-in-Ok-clause-few
returns-in-Ok-clause-few g c = c.requires.few

pub returns-in-Ok-clause-untouched : goal.returns-in-Ok-clause-untouched
returns-in-Ok-clause-untouched g c = c.read_applied.ensures.untouched

pub returns-in-Err-clause-untouched : goal.returns-in-Err-clause-untouched
returns-in-Err-clause-untouched g c = c.read_applied.ensures.untouched
