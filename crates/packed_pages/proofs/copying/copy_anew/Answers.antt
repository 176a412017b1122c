use Rattle.std.proofs.Common.{refl}
use Rattle.outside.specs.ScratchView.{scratch_passes_both}
use Rattle.outside.proofs.Views.{untouched_none}
use Rattle.page_pair.proofs.Readings.{take-later}
use Rattle.packed_pages.proofs.copying.copy_anew.Goals as goal

pub returns-in-Err-clause-untouched : goal.returns-in-Err-clause-untouched
returns-in-Err-clause-untouched g c = untouched_none _

pub returns-in-Err-clause-size : goal.returns-in-Err-clause-size
returns-in-Err-clause-size g c = refl

pub returns-in-Err-clause-passes : goal.returns-in-Err-clause-passes
returns-in-Err-clause-passes g c = c.restart.ensures.passes

pub returns-in-Err-clause-written : goal.returns-in-Err-clause-written
returns-in-Err-clause-written g c = tt

pub returns-in-Err-lay_entries-clause-untouched : goal.returns-in-Err-lay_entries-clause-untouched
returns-in-Err-lay_entries-clause-untouched g c = untouched_none _

pub returns-in-Err-lay_entries-clause-size : goal.returns-in-Err-lay_entries-clause-size
returns-in-Err-lay_entries-clause-size g c = refl

pub returns-in-Err-lay_entries-clause-passes : goal.returns-in-Err-lay_entries-clause-passes
returns-in-Err-lay_entries-clause-passes g c = scratch_passes_both c.restart.ensures.passes c.lay_entries.ensures.passes

pub returns-in-Err-lay_entries-clause-written : goal.returns-in-Err-lay_entries-clause-written
returns-in-Err-lay_entries-clause-written g c = tt

pub returns-in-Ok-copy_pages : goal.returns-in-Ok-copy_pages
returns-in-Ok-copy_pages g c = record {
  untouched = c.copy_pages.ensures.untouched;
  size = c.copy_pages.ensures.size;
  passes = scratch_passes_both (scratch_passes_both c.restart.ensures.passes c.lay_entries.ensures.passes) c.copy_pages.ensures.passes;
  written = c.in-Ok-copy_pages.ensures.written;
  cause = tt;
}

pub returns-in-Err-copy_pages : goal.returns-in-Err-copy_pages
returns-in-Err-copy_pages g c = record {
  untouched = c.copy_pages.ensures.untouched;
  size = c.copy_pages.ensures.size;
  passes = scratch_passes_both (scratch_passes_both c.restart.ensures.passes c.lay_entries.ensures.passes) c.copy_pages.ensures.passes;
  written = tt;
  cause = take-later c.in-Err-copy_pages.fault (g.C.Scratch.view c.args.scratch.now) (g.C.Scratch.view c.lay_entries.new.scratch) (g.C.Scratch.view c.copy_pages.new.scratch) (g.T.Tree.view c.args.tree.now) (g.T.Tree.view c.args.tree.now) (g.T.Tree.view c.copy_pages.new.tree) (scratch_passes_both c.restart.ensures.passes c.lay_entries.ensures.passes) (untouched_none _) c.in-Err-copy_pages.ensures.cause;
}

pub copy_pages-requires-clause-there : goal.copy_pages-requires-clause-there
copy_pages-requires-clause-there g c = c.requires.there

pub copy_pages-requires-clause-stated : goal.copy_pages-requires-clause-stated
copy_pages-requires-clause-stated g c = c.requires.stated

pub copy_pages-requires-clause-measured : goal.copy_pages-requires-clause-measured
copy_pages-requires-clause-measured g c = c.requires.measured

pub copy_pages-requires-clause-layout : goal.copy_pages-requires-clause-layout
copy_pages-requires-clause-layout g c = c.requires.layout

pub copy_pages-requires-clause-size : goal.copy_pages-requires-clause-size
copy_pages-requires-clause-size g c = c.requires.size

pub copy_pages-requires-clause-laid : goal.copy_pages-requires-clause-laid
copy_pages-requires-clause-laid g c = c.in-Ok-lay_entries.ensures.laid

pub copy_pages-requires-clause-short : goal.copy_pages-requires-clause-short
copy_pages-requires-clause-short g c = c.requires.short

pub lay_entries-requires-clause-empty : goal.lay_entries-requires-clause-empty
lay_entries-requires-clause-empty g c = c.in-Ok.ensures.empty
