use Rattle.std.proofs.Common.{◌≡◌, ◌-◌, ◌≤◌}
use Rattle.line_store.specs.declared.Half.TheVariants.{Second}
use Rattle.outside.specs.Calls.{IsUntouched}
use Rattle.outside.specs.ScratchView.{ScratchPasses}
use Rattle.page_pair.specs.Pair.{page_of}
use Rattle.page_pair.specs.Reading.{told_file}
use Rattle.packed_pages.specs.Filling.{IsReady}
use Rattle.packed_pages.specs.Copying.{IsCopied}
use Rattle.packed_pages.proofs.copying.copy_pages.Given as goal

abbrev pub invariant-loop-copied : goal.invariant-loop-copied
invariant-loop-copied g l =
    let view = g.C.Scratch.view in
    let tree = g.T.Tree.view in
    record {
      untouched : IsUntouched (tree l.fn.tree) (tree l.tree);
      size : l.pair.size ≡ l.fn.pair.size;
      passes : ScratchPasses (view l.fn.scratch) (view l.scratch);
      ready : IsReady l.layout (view l.scratch).told l.copied.filling;
      few : l.copied.filling.count ≤ l.copied.at;
      within : l.copied.at ≤ l.length;
      copied : IsCopied l.layout (view l.scratch).told (page_of l.pair Second) l.copied.at l.copied.filling (told_file (tree l.fn.tree) l.name);
    }

abbrev pub decreases-loop-copied : goal.decreases-loop-copied
decreases-loop-copied g l = l.length - l.copied.at
