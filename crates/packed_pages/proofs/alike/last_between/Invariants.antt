use Rattle.std.proofs.Common.{◌≡◌, ◌≢◌, ◌≤◌, ◌-◌, ℕ, List, Some, IfSome, ◌<◌}
use Rattle.line_store.specs.declared.Half.{Half}
use Rattle.line_store.specs.Store.{Keeps, IsLastAlike}
use Rattle.packed_pages.specs.Marks.{AreMarked}
use Rattle.packed_pages.specs.Layout.{lines_told}
use Rattle.packed_pages.specs.Held.{seen_of, place_of, IsHeld}
use Rattle.packed_pages.proofs.alike.last_between.Given as goal

abbrev pub invariant-loop-k : goal.invariant-loop-k
invariant-loop-k g l = record {
  held : IsHeld l.pair l.layout l.places (g.C.Scratch.view l.scratch);
  marked : AreMarked l.pair l.marks;
  from : l.from ≤ l.k;
  none : (lines : List (List ℕ)) → lines_told l.layout (g.C.Scratch.view l.fn.scratch).told ≡ Some lines → IsLastAlike lines l.line l.from l.k l.found;
  within : IfSome l.found (λ k. (l.from ≤ k) × (k < l.k));
  high : l.k ≤ l.to;
  other : (h : Half) → h ≢ l.half → place_of l.places h ≡ place_of l.fn.places h;
  keeps : Keeps (seen_of l.layout l.fn.places (g.C.Scratch.view l.fn.scratch)) (seen_of l.layout l.places (g.C.Scratch.view l.scratch));
}

abbrev pub decreases-loop-k : goal.decreases-loop-k
decreases-loop-k g l = l.to - l.k
