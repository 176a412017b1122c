use Rattle.std.proofs.Common.{◌≡◌, ◌+◌, ◌-◌, ◌≤◌, take}
use Rattle.line_store.specs.declared.Half.TheVariants.{First, Second}
use Rattle.outside.specs.ScratchView.{ScratchPasses}
use Rattle.page_pair.specs.Pair.{page_of}
use Rattle.packed_pages.specs.Filling.{IsReady}
use Rattle.packed_pages.specs.Copying.{Copies}
use Rattle.packed_pages.proofs.copying.copy_lines.Given as goal

abbrev pub invariant-loop-end : goal.invariant-loop-end
invariant-loop-end g l =
    let view = g.C.Scratch.view in
    record {
      size : l.pair.size ≡ l.fn.pair.size;
      first : page_of l.pair First ≡ page_of l.fn.pair First;
      passes : ScratchPasses (view l.fn.scratch) (view l.scratch);
      ready : IsReady l.layout (view l.scratch).told l.now;
      count : l.now.count ≤ l.fn.filling.count + l.at;
      within : l.at ≤ l.got;
      copies : Copies l.layout (view l.fn.scratch).told (view l.scratch).told (page_of l.fn.pair Second) (page_of l.pair Second) l.fn.filling l.now (take l.got (page_of l.fn.pair First)) l.is_last l.at;
    }

abbrev pub decreases-loop-end : goal.decreases-loop-end
decreases-loop-end g l = l.got - l.at
