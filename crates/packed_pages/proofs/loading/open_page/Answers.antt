use Rattle.std.proofs.Common.{refl, sym, ◌∙◌, arith}
use Rattle.outside.specs.ScratchView.{scratch_passes_both}
use Rattle.packed_pages.proofs.loading.open_page.Goals as goal

pub returns-in-Err : goal.returns-in-Err
returns-in-Err g c = record {
  size = refl;
  other = λ h ne. refl;
  place = tt;
  low = tt;
  high = tt;
  passes = c.in-Err.ensures.passes;
  told = c.in-Err.ensures.told;
  reads = λ digits wide. omega (arith, c.find_page.ensures.reads digits wide);
  cause = c.in-Err.ensures.cause;
}

pub returns-in-Ok-read_page-clause-size : goal.returns-in-Ok-read_page-clause-size
returns-in-Ok-read_page-clause-size g c = c.read_page.ensures.size

pub returns-in-Ok-read_page-clause-other : goal.returns-in-Ok-read_page-clause-other
returns-in-Ok-read_page-clause-other g c = c.read_page.ensures.other

pub returns-in-Ok-read_page-clause-low : goal.returns-in-Ok-read_page-clause-low
returns-in-Ok-read_page-clause-low g c = c.in-Ok.ensures.span.first

pub returns-in-Ok-read_page-clause-high : goal.returns-in-Ok-read_page-clause-high
returns-in-Ok-read_page-clause-high g c = c.in-Ok.ensures.span.next

pub returns-in-Ok-read_page-clause-passes : goal.returns-in-Ok-read_page-clause-passes
returns-in-Ok-read_page-clause-passes g c = scratch_passes_both c.find_page.ensures.passes c.read_page.ensures.passes

pub returns-in-Ok-read_page-clause-told : goal.returns-in-Ok-read_page-clause-told
returns-in-Ok-read_page-clause-told g c = c.read_page.ensures.told ∙ c.find_page.ensures.told

pub returns-in-Ok-read_page-clause-cause : goal.returns-in-Ok-read_page-clause-cause
returns-in-Ok-read_page-clause-cause g c = tt

pub returns-in-Err-read_page-clause-size : goal.returns-in-Err-read_page-clause-size
returns-in-Err-read_page-clause-size g c = c.read_page.ensures.size

pub returns-in-Err-read_page-clause-other : goal.returns-in-Err-read_page-clause-other
returns-in-Err-read_page-clause-other g c = c.read_page.ensures.other

pub returns-in-Err-read_page-clause-place : goal.returns-in-Err-read_page-clause-place
returns-in-Err-read_page-clause-place g c = tt

pub returns-in-Err-read_page-clause-low : goal.returns-in-Err-read_page-clause-low
returns-in-Err-read_page-clause-low g c = tt

pub returns-in-Err-read_page-clause-high : goal.returns-in-Err-read_page-clause-high
returns-in-Err-read_page-clause-high g c = tt

pub returns-in-Err-read_page-clause-passes : goal.returns-in-Err-read_page-clause-passes
returns-in-Err-read_page-clause-passes g c = scratch_passes_both c.find_page.ensures.passes c.read_page.ensures.passes

pub returns-in-Err-read_page-clause-told : goal.returns-in-Err-read_page-clause-told
returns-in-Err-read_page-clause-told g c = c.read_page.ensures.told ∙ c.find_page.ensures.told

pub find_page-requires-clause-layout : goal.find_page-requires-clause-layout
find_page-requires-clause-layout g c = c.requires.layout

pub find_page-requires-clause-packs : goal.find_page-requires-clause-packs
find_page-requires-clause-packs g c = c.requires.packs

pub find_page-requires-clause-low : goal.find_page-requires-clause-low
find_page-requires-clause-low g c = c.requires.low

pub find_page-requires-clause-high : goal.find_page-requires-clause-high
find_page-requires-clause-high g c = c.requires.high

pub read_page-requires-clause-layout : goal.read_page-requires-clause-layout
read_page-requires-clause-layout g c = c.requires.layout

pub read_page-requires-clause-packs : goal.read_page-requires-clause-packs
read_page-requires-clause-packs g c b told = c.requires.packs b (sym c.find_page.ensures.told ∙ told)

pub read_page-requires-clause-size : goal.read_page-requires-clause-size
read_page-requires-clause-size g c = c.requires.size

pub returns-in-Err-read_page-clause-reads : goal.returns-in-Err-read_page-clause-reads
returns-in-Err-read_page-clause-reads g c = λ digits wide. omega (arith, c.find_page.ensures.reads digits wide, c.read_page.ensures.reads)

pub returns-in-Ok-read_page-clause-reads : goal.returns-in-Ok-read_page-clause-reads
returns-in-Ok-read_page-clause-reads g c = λ digits wide. omega (arith, c.find_page.ensures.reads digits wide, c.read_page.ensures.reads)
