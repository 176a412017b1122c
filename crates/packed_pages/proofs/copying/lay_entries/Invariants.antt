use Rattle.std.proofs.Common.{◌≡◌, ◌*◌, ◌-◌, ◌≤◌, ℕ, List, Some, replicate}
use Rattle.outside.specs.ScratchView.{ScratchPasses}
use Rattle.packed_pages.proofs.copying.lay_entries.Given as goal

abbrev pub invariant-loop-page : goal.invariant-loop-page
invariant-loop-page g l =
    let view = g.C.Scratch.view in
    record {
      passes : ScratchPasses (view l.fn.scratch) (view l.scratch);
      within : l.page ≤ l.pages;
      laid : (b : List ℕ) → (view l.scratch).told ≡ Some b → b ≡ replicate (8 * l.page) 0;
    }

abbrev pub decreases-loop-page : goal.decreases-loop-page
decreases-loop-page g l = l.pages - l.page
