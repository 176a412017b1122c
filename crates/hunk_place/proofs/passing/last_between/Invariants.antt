use Rattle.std.proofs.Common.{◌≤◌}
use Rattle.line_store.specs.Store.{Keeps}
use Rattle.hunk_place.specs.Passing.{NonePasses, WhereTold}
use Rattle.hunk_place.proofs.passing.last_between.Given as goal

abbrev pub invariant-loop-end : goal.invariant-loop-end
invariant-loop-end g l = record {
  high : l.end ≤ l.to;
  keeps : Keeps (g.S.LineStore.seen l.fn.store) (g.S.LineStore.seen l.store);
  none : WhereTold (g.S.LineStore.seen l.fn.store).told l.pattern (λ f. NonePasses f l.end l.to);
}

abbrev pub decreases-loop-end : goal.decreases-loop-end
decreases-loop-end g l = l.end
