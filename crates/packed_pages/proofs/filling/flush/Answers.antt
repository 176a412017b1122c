use Rattle.std.proofs.Common.{◌<◌, ◌*◌, ◌+◌, arith, refl}
use Rattle.packed_pages.proofs.Fillings.{behind-kept}
use Rattle.outside.specs.ScratchView.{scratch_passes_both}
use Rattle.packed_pages.proofs.Sizes.{pages-fit}
use Rattle.packed_pages.proofs.filling.flush.Goals as goal

pub write_page-requires-clause-behind : goal.write_page-requires-clause-behind
write_page-requires-clause-behind g c =
    let view = g.C.Scratch.view in
    let lt : c.args.filling.room.pages < c.args.layout.pages = c.requires.there in
    behind-kept (view c.args.scratch.now).told (view c.write_entry.new.scratch).told (c.args.filling.room.pages * 8) (8 * c.args.layout.pages + c.args.filling.room.pages * c.args.layout.size) c.args.filling.first c.write_entry.ensures.passes.telling c.requires.ready.behind (omega arith) c.in-Ok.ensures.written

pub returns-in-Err : goal.returns-in-Err
returns-in-Err g c = record {
  size = refl;
  first = refl;
  passes = c.in-Err.ensures.passes;
  written = tt;
  cause = c.in-Err.ensures.cause;
}

pub returns-in-Ok-write_page-clause-size : goal.returns-in-Ok-write_page-clause-size
returns-in-Ok-write_page-clause-size g c = c.write_page.ensures.size

pub returns-in-Ok-write_page-clause-first : goal.returns-in-Ok-write_page-clause-first
returns-in-Ok-write_page-clause-first g c = c.write_page.ensures.first

pub returns-in-Ok-write_page-clause-passes : goal.returns-in-Ok-write_page-clause-passes
returns-in-Ok-write_page-clause-passes g c = scratch_passes_both c.write_entry.ensures.passes c.write_page.ensures.passes

pub returns-in-Ok-write_page-clause-cause : goal.returns-in-Ok-write_page-clause-cause
returns-in-Ok-write_page-clause-cause g c = tt

pub returns-in-Err-write_page-clause-size : goal.returns-in-Err-write_page-clause-size
returns-in-Err-write_page-clause-size g c = c.write_page.ensures.size

pub returns-in-Err-write_page-clause-first : goal.returns-in-Err-write_page-clause-first
returns-in-Err-write_page-clause-first g c = c.write_page.ensures.first

pub returns-in-Err-write_page-clause-passes : goal.returns-in-Err-write_page-clause-passes
returns-in-Err-write_page-clause-passes g c = scratch_passes_both c.write_entry.ensures.passes c.write_page.ensures.passes

pub returns-in-Err-write_page-clause-written : goal.returns-in-Err-write_page-clause-written
returns-in-Err-write_page-clause-written g c = tt

pub overflow_add-at : goal.overflow_add-at
overflow_add-at g c = omega (arith, c.requires.layout.pages, c.requires.layout.few, pages-fit c.args.layout c.args.filling.room.pages c.requires.layout c.requires.ready.pages)

pub overflow_mul-at-2 : goal.overflow_mul-at-2
overflow_mul-at-2 g c = omega (arith, pages-fit c.args.layout c.args.filling.room.pages c.requires.layout c.requires.ready.pages)

pub write_page-requires-clause-filled : goal.write_page-requires-clause-filled
write_page-requires-clause-filled g c = omega (arith, c.requires.ready.filled, c.requires.size)
