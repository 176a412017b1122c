use Rattle.std.proofs.Common.{◌≡◌, ◌≢◌, ℕ, List, Some}
use Rattle.line_store.specs.declared.Half.{Half}
use Rattle.line_store.specs.Store.{Keeps, NoneAlike}
use Rattle.line_store.proofs.LineStore.last_alike.Given as goal

abbrev pub invariant-loop-k : goal.invariant-loop-k
invariant-loop-k g l = record {
  keeps : Keeps (g.Self.LineStore.seen l.fn.self) (g.Self.LineStore.seen l.self);
  other : (h : Half) → h ≢ l.fn.half → (g.Self.LineStore.seen l.self).held h ≡ (g.Self.LineStore.seen l.fn.self).held h;
  none : (lines : List (List ℕ)) → (g.Self.LineStore.seen l.fn.self).told ≡ Some lines → NoneAlike lines l.line l.k l.fn.to;
}
