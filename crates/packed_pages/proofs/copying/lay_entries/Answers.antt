use Rattle.std.proofs.Common.{◌≡◌, ◌*◌, length, ap, ◌∙◌, arith}
use Rattle.std.proofs.lemmas.List.{length-replicate}
use Rattle.outside.specs.ScratchView.{scratch_passes_none, scratch_passes_both}
use Rattle.packed_pages.proofs.Copyings.{laid-none, laid-more}
use Rattle.packed_pages.proofs.copying.lay_entries.Goals as goal

pub loop-page-init : goal.loop-page-init
loop-page-init g c = record {
  passes = scratch_passes_none _;
  within = omega arith;
  laid = laid-none (g.C.Scratch.view c.args.scratch.now).told c.requires.empty;
}

pub loop-page-preserved : goal.loop-page-preserved
loop-page-preserved g c =
    let view = g.C.Scratch.view in
    record {
      passes = scratch_passes_both c.loop-page.invariant.passes c.in-Ok.ensures.passes;
      within = omega arith;
      laid = laid-more (view c.loop-page.scratch).told (view c.write_entry.new.scratch).told c.loop-page.page c.in-Ok.ensures.passes.telling c.loop-page.invariant.laid c.in-Ok.ensures.written;
    }

pub write_entry-requires-clause-there : goal.write_entry-requires-clause-there
write_entry-requires-clause-there g c b told =
    let len : length b ≡ 8 * c.loop-page.page = ap length (c.loop-page.invariant.laid b told) ∙ length-replicate (8 * c.loop-page.page) 0 in
    omega arith
