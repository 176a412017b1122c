use Rattle.std.proofs.Common.{arith, refl}
use Rattle.page_pair.specs.Pair.{page_of}
use Rattle.packed_pages.specs.Marks.{marks_of}
use Rattle.packed_pages.proofs.HeldLemmas.{start-held, marked-more}
use Rattle.outside.specs.ScratchView.{scratch_passes_none}
use Rattle.packed_pages.proofs.loading.reach.Goals as goal

pub returns-in-Some-clause-place : goal.returns-in-Some-clause-place
returns-in-Some-clause-place g c = start-held c.args.pair.now c.args.layout c.args.places (marks_of c.args.marks.now c.args.half) (g.C.Scratch.view c.args.scratch.now) c.args.half c.args.k c.in-Some.start c.requires.held (c.requires.marked c.args.half) c.in-Some.ensures.start

pub returns-in-Some-clause-marked : goal.returns-in-Some-clause-marked
returns-in-Some-clause-marked g c = c.in-Some.ensures.marked c.args.pair.now c.requires.marked

pub returns-in-None-clause-marked : goal.returns-in-None-clause-marked
returns-in-None-clause-marked g c = marked-more c.args.pair.now c.open_page.new.pair c.held_start.new.marks c.clear.new.self c.args.half (c.in-None.ensures.marked c.args.pair.now c.requires.marked) c.open_page.ensures.other c.clear.ensures.other (c.clear.ensures.none (page_of c.open_page.new.pair c.args.half))

pub open_page-requires-clause-packs : goal.open_page-requires-clause-packs
open_page-requires-clause-packs g c b told = c.requires.held.packs (omega arith) b told

pub returns-in-Some-clause-size : goal.returns-in-Some-clause-size
returns-in-Some-clause-size g c = refl

pub returns-in-Some-clause-other : goal.returns-in-Some-clause-other
returns-in-Some-clause-other g c h ne = refl

pub returns-in-Some-clause-passes : goal.returns-in-Some-clause-passes
returns-in-Some-clause-passes g c = scratch_passes_none _

pub returns-in-Some-clause-told : goal.returns-in-Some-clause-told
returns-in-Some-clause-told g c = refl

pub returns-in-Some-clause-reads : goal.returns-in-Some-clause-reads
returns-in-Some-clause-reads g c digits lt = omega arith

pub returns-in-Some-clause-still : goal.returns-in-Some-clause-still
returns-in-Some-clause-still g c has = refl

pub returns-in-Some-clause-cause : goal.returns-in-Some-clause-cause
returns-in-Some-clause-cause g c = tt

pub returns-in-None-clause-size : goal.returns-in-None-clause-size
returns-in-None-clause-size g c = c.open_page.ensures.size

pub returns-in-None-clause-other : goal.returns-in-None-clause-other
returns-in-None-clause-other g c = c.open_page.ensures.other

pub returns-in-None-clause-place : goal.returns-in-None-clause-place
returns-in-None-clause-place g c = c.open_page.ensures.place

pub returns-in-None-clause-low : goal.returns-in-None-clause-low
returns-in-None-clause-low g c = c.open_page.ensures.low

pub returns-in-None-clause-high : goal.returns-in-None-clause-high
returns-in-None-clause-high g c = c.open_page.ensures.high

pub returns-in-None-clause-passes : goal.returns-in-None-clause-passes
returns-in-None-clause-passes g c = c.open_page.ensures.passes

pub returns-in-None-clause-told : goal.returns-in-None-clause-told
returns-in-None-clause-told g c = c.open_page.ensures.told

pub returns-in-None-clause-reads : goal.returns-in-None-clause-reads
returns-in-None-clause-reads g c = c.open_page.ensures.reads

pub returns-in-None-clause-cause : goal.returns-in-None-clause-cause
returns-in-None-clause-cause g c = c.open_page.ensures.cause

pub open_page-requires-clause-layout : goal.open_page-requires-clause-layout
open_page-requires-clause-layout g c = c.requires.held.layout

pub open_page-requires-clause-size : goal.open_page-requires-clause-size
open_page-requires-clause-size g c = c.requires.held.size

pub open_page-requires-clause-low : goal.open_page-requires-clause-low
open_page-requires-clause-low g c = c.requires.low

pub open_page-requires-clause-high : goal.open_page-requires-clause-high
open_page-requires-clause-high g c = c.requires.high
