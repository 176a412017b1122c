use Rattle.std.proofs.Common.{◌≡◌, ◌≢◌, ◌≤◌, ◌-◌, ℕ, List, Some}
use Rattle.line_store.specs.declared.Half.{Half}
use Rattle.line_store.specs.Halves.{half_of}
use Rattle.line_store.specs.Store.{Keeps, NoneAlike}
use Rattle.plan_b.specs.Spots.{AreSpots}
use Rattle.plan_b.specs.Layout.{lines_told}
use Rattle.plan_b.specs.Held.{seen_of, IsHeld}
use Rattle.plan_b.proofs.alike.find_first.Given as goal

abbrev pub invariant-loop-k : goal.invariant-loop-k
invariant-loop-k g l = record {
  held : IsHeld l.pair l.layout l.halves (g.C.Scratch.view l.scratch);
  spots : AreSpots l.layout l.halves l.spots;
  from : l.from ≤ l.k;
  none : (lines : List (List ℕ)) → lines_told l.layout (g.C.Scratch.view l.fn.scratch).told ≡ Some lines → NoneAlike lines l.line l.from l.k;
  other : (h : Half) → h ≢ l.half → half_of l.halves h ≡ half_of l.fn.halves h;
  keeps : Keeps (seen_of l.layout l.fn.halves (g.C.Scratch.view l.fn.scratch)) (seen_of l.layout l.halves (g.C.Scratch.view l.scratch));
}

abbrev pub decreases-loop-k : goal.decreases-loop-k
decreases-loop-k g l = l.to - l.k
