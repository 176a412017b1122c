use Rattle.std.proofs.Common.{◌-◌, ◌≤◌}
use Rattle.line_store.specs.Store.{Keeps}
use Rattle.hunk_place.specs.Passing.{NonePasses, WhereTold}
use Rattle.hunk_place.proofs.passing.first_between.Given as goal

abbrev pub invariant-loop-at : goal.invariant-loop-at
invariant-loop-at g l = record {
  low : l.from ≤ l.at;
  keeps : Keeps (g.S.LineStore.seen l.fn.store) (g.S.LineStore.seen l.store);
  none : WhereTold (g.S.LineStore.seen l.fn.store).told l.pattern (λ f. NonePasses f l.from l.at);
}

abbrev pub decreases-loop-at : goal.decreases-loop-at
decreases-loop-at g l = l.to - l.at
