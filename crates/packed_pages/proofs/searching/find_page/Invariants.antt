use Rattle.std.proofs.Common.{◌-◌, ◌≡◌, ◌<◌, ◌^◌, ℕ, List, Some}
use Rattle.outside.specs.ScratchView.{ScratchPasses}
use Rattle.packed_pages.specs.Held.{IsSpan, IsSpanTold, HasReadsLeft}
use Rattle.packed_pages.proofs.searching.find_page.Given as goal

abbrev pub invariant-loop-span : goal.invariant-loop-span
invariant-loop-span g l =
    let view = g.C.Scratch.view in
    record {
      passes : ScratchPasses (view l.fn.scratch) (view l.scratch);
      told : (view l.scratch).told ≡ (view l.fn.scratch).told;
      reads : (digits : ℕ) → l.layout.pages < 2 ^ digits → HasReadsLeft (l.span.high - l.span.low) digits (view l.fn.scratch) (view l.scratch);
      span : IsSpan l.layout l.k l.span;
      entries : (b : List ℕ) → (view l.fn.scratch).told ≡ Some b → IsSpanTold l.layout b l.span;
    }

abbrev pub decreases-loop-span : goal.decreases-loop-span
decreases-loop-span g l = l.span.high - l.span.low
