use Rattle.outside.specs.ScratchView.{scratch_passes_none}
use Rattle.std.proofs.Common.{◌∙◌, refl, sym, subst, arith}
use Rattle.outside.proofs.Views.{untouched_both}
use Rattle.page_pair.proofs.Readings.{told-same, take-later}
use Rattle.packed_pages.specs.Copying.{IsWritten}
use Rattle.page_pair.proofs.Told.{open-cause, take-kept}
use Rattle.line_store.proofs.StoreLemmas.{kept-at-long}
use Rattle.packed_pages.proofs.taking.take_pages.Goals as goal

pub returns-in-Err-measure_layout-clause-untouched : goal.returns-in-Err-measure_layout-clause-untouched
returns-in-Err-measure_layout-clause-untouched g c = untouched_both c.in-Ok.ensures.untouched c.measure_layout.ensures.untouched

pub returns-in-Ok-copy_anew : goal.returns-in-Ok-copy_anew
returns-in-Ok-copy_anew g c = record {
  untouched = untouched_both c.in-Ok.ensures.untouched (untouched_both c.measure_layout.ensures.untouched c.copy_anew.ensures.untouched);
  size = c.copy_anew.ensures.size ∙ c.measure_layout.ensures.size;
  passes = c.copy_anew.ensures.passes;
  layout = c.in-Ok-measure_layout.ensures.layout;
  page = c.in-Ok-measure_layout.ensures.page;
  written = subst (IsWritten c.in-Ok-measure_layout.layout (g.C.Scratch.view c.copy_anew.new.scratch).told) (told-same c.args.name.now (untouched_both c.in-Ok.ensures.untouched c.measure_layout.ensures.untouched)) c.in-Ok-copy_anew.ensures.written;
  measured = λ text told. c.in-Ok-measure_layout.ensures.lines text (told-same c.args.name.now c.in-Ok.ensures.untouched ∙ told);
  short = λ text told. omega (arith, c.in-Ok.ensures.size text told);
  cause = tt;
  kept = tt;
}

pub returns-in-Err-copy_anew : goal.returns-in-Err-copy_anew
returns-in-Err-copy_anew g c = record {
  untouched = untouched_both c.in-Ok.ensures.untouched (untouched_both c.measure_layout.ensures.untouched c.copy_anew.ensures.untouched);
  size = c.copy_anew.ensures.size ∙ c.measure_layout.ensures.size;
  passes = c.copy_anew.ensures.passes;
  layout = tt;
  page = tt;
  written = tt;
  measured = tt;
  short = tt;
  cause = (
      let scratch = g.C.Scratch.view in
      let tree = g.T.Tree.view in
      open-cause c.in-Err-copy_anew.fault c.args.pair.now.size (scratch c.args.scratch.now) (scratch c.copy_anew.new.scratch) (tree c.args.tree.now) (tree c.copy_anew.new.tree) c.args.name.now
      (take-later c.in-Err-copy_anew.fault (scratch c.args.scratch.now) (scratch c.args.scratch.now) (scratch c.copy_anew.new.scratch) (tree c.args.tree.now) (tree c.measure_layout.new.tree) (tree c.copy_anew.new.tree) (scratch_passes_none _) (untouched_both c.size_of.ensures.untouched c.measure_layout.ensures.untouched) c.in-Err-copy_anew.ensures.cause));
  kept = take-kept c.in-Err-copy_anew.fault (g.C.Scratch.view c.args.scratch.now) (g.C.Scratch.view c.copy_anew.new.scratch) _ _ c.in-Err-copy_anew.ensures.cause;
}

pub returns-in-Err-measure_layout-clause-layout : goal.returns-in-Err-measure_layout-clause-layout
returns-in-Err-measure_layout-clause-layout g c = tt

pub returns-in-Err-measure_layout-clause-page : goal.returns-in-Err-measure_layout-clause-page
returns-in-Err-measure_layout-clause-page g c = tt

pub returns-in-Err-measure_layout-clause-written : goal.returns-in-Err-measure_layout-clause-written
returns-in-Err-measure_layout-clause-written g c = tt

pub returns-in-Err-measure_layout-clause-measured : goal.returns-in-Err-measure_layout-clause-measured
returns-in-Err-measure_layout-clause-measured g c = tt

pub returns-in-Err-measure_layout-clause-short : goal.returns-in-Err-measure_layout-clause-short
returns-in-Err-measure_layout-clause-short g c = tt

pub returns-in-Err-measure_layout-clause-size : goal.returns-in-Err-measure_layout-clause-size
returns-in-Err-measure_layout-clause-size g c = c.measure_layout.ensures.size

pub returns-in-Err-clause-layout : goal.returns-in-Err-clause-layout
returns-in-Err-clause-layout g c = tt

pub returns-in-Err-clause-page : goal.returns-in-Err-clause-page
returns-in-Err-clause-page g c = tt

pub returns-in-Err-clause-written : goal.returns-in-Err-clause-written
returns-in-Err-clause-written g c = tt

pub returns-in-Err-clause-measured : goal.returns-in-Err-clause-measured
returns-in-Err-clause-measured g c = tt

pub returns-in-Err-clause-short : goal.returns-in-Err-clause-short
returns-in-Err-clause-short g c = tt

pub returns-in-Err-clause-size : goal.returns-in-Err-clause-size
returns-in-Err-clause-size g c = refl

pub returns-in-Err-clause-untouched : goal.returns-in-Err-clause-untouched
returns-in-Err-clause-untouched g c = c.size_of.ensures.untouched

pub returns-in-Err-clause-passes : goal.returns-in-Err-clause-passes
returns-in-Err-clause-passes g c = scratch_passes_none _

pub returns-in-Err-measure_layout-clause-passes : goal.returns-in-Err-measure_layout-clause-passes
returns-in-Err-measure_layout-clause-passes g c = scratch_passes_none _

pub returns-then-total-ge-TOO_LONG-clause-untouched : goal.returns-then-total-ge-TOO_LONG-clause-untouched
returns-then-total-ge-TOO_LONG-clause-untouched g c = c.in-Ok.ensures.untouched

pub returns-then-total-ge-TOO_LONG-clause-size : goal.returns-then-total-ge-TOO_LONG-clause-size
returns-then-total-ge-TOO_LONG-clause-size g c = refl

pub returns-then-total-ge-TOO_LONG-clause-passes : goal.returns-then-total-ge-TOO_LONG-clause-passes
returns-then-total-ge-TOO_LONG-clause-passes g c = scratch_passes_none _

pub returns-then-total-ge-TOO_LONG-clause-layout : goal.returns-then-total-ge-TOO_LONG-clause-layout
returns-then-total-ge-TOO_LONG-clause-layout g c = tt

pub returns-then-total-ge-TOO_LONG-clause-page : goal.returns-then-total-ge-TOO_LONG-clause-page
returns-then-total-ge-TOO_LONG-clause-page g c = tt

pub returns-then-total-ge-TOO_LONG-clause-written : goal.returns-then-total-ge-TOO_LONG-clause-written
returns-then-total-ge-TOO_LONG-clause-written g c = tt

pub returns-then-total-ge-TOO_LONG-clause-measured : goal.returns-then-total-ge-TOO_LONG-clause-measured
returns-then-total-ge-TOO_LONG-clause-measured g c = tt

pub returns-then-total-ge-TOO_LONG-clause-short : goal.returns-then-total-ge-TOO_LONG-clause-short
returns-then-total-ge-TOO_LONG-clause-short g c = tt

pub copy_anew-requires-clause-layout : goal.copy_anew-requires-clause-layout
copy_anew-requires-clause-layout g c = c.in-Ok-measure_layout.ensures.layout

pub copy_anew-requires-clause-there : goal.copy_anew-requires-clause-there
copy_anew-requires-clause-there g c f told = c.requires f (sym c.in-Ok.ensures.untouched.told ∙ (sym c.measure_layout.ensures.untouched.told ∙ told))

pub copy_anew-requires-clause-measured : goal.copy_anew-requires-clause-measured
copy_anew-requires-clause-measured g c text told = c.in-Ok-measure_layout.ensures.lines text (sym (told-same c.args.name.now c.measure_layout.ensures.untouched) ∙ told)

pub copy_anew-requires-clause-short : goal.copy_anew-requires-clause-short
copy_anew-requires-clause-short g c = omega arith

pub copy_anew-requires-clause-size : goal.copy_anew-requires-clause-size
copy_anew-requires-clause-size g c = c.in-Ok-measure_layout.ensures.page ∙ sym c.measure_layout.ensures.size

pub measure_layout-requires-clause-there : goal.measure_layout-requires-clause-there
measure_layout-requires-clause-there g c f told = c.requires f (sym c.in-Ok.ensures.untouched.told ∙ told)

pub measure_layout-requires-clause-few : goal.measure_layout-requires-clause-few
measure_layout-requires-clause-few g c = omega arith

pub copy_anew-requires-clause-stated : goal.copy_anew-requires-clause-stated
copy_anew-requires-clause-stated g c text told = c.in-Ok.ensures.size text (sym (told-same c.args.name.now (untouched_both c.in-Ok.ensures.untouched c.measure_layout.ensures.untouched)) ∙ told)

pub measure_layout-requires-clause-stated : goal.measure_layout-requires-clause-stated
measure_layout-requires-clause-stated g c text told = c.in-Ok.ensures.size text (sym (told-same c.args.name.now c.in-Ok.ensures.untouched) ∙ told)

pub returns-in-Err-clause-kept : goal.returns-in-Err-clause-kept
returns-in-Err-clause-kept g c = kept-at-long c.in-Err.fault _ _ refl

pub returns-in-Err-measure_layout-clause-kept : goal.returns-in-Err-measure_layout-clause-kept
returns-in-Err-measure_layout-clause-kept g c = kept-at-long c.in-Err-measure_layout.fault _ _ refl

pub returns-then-total-ge-TOO_LONG-clause-kept : goal.returns-then-total-ge-TOO_LONG-clause-kept
returns-then-total-ge-TOO_LONG-clause-kept g c = tt
