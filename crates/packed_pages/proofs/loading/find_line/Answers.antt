use Rattle.std.proofs.Common.{◌≤◌, ◌-◌, ◌∙◌, arith, ap}
use Rattle.page_pair.specs.Pair.{page_of}
use Rattle.page_pair.proofs.Windows.{none-unless}
use Rattle.packed_pages.proofs.HeldLemmas.{no-overrun, record-cause}
use Rattle.packed_pages.proofs.loading.find_line.Goals as goal

pub returns-in-Err-walk : goal.returns-in-Err-walk
returns-in-Err-walk g c = record {
  size = c.reach.ensures.size;
  other = c.reach.ensures.other;
  marked = c.walk.ensures.marked;
  loaded = tt;
  line = tt;
  passes = c.reach.ensures.passes;
  told = c.reach.ensures.told;
  reads = c.reach.ensures.reads;
  still = c.reach.ensures.still;
  cause = (
      let view = g.C.Scratch.view in
      let start = c.in-Ok.start in
      let on = c.in-Ok.ensures.place in
      let low : c.in-Ok.start.first ≤ c.in-Ok.start.line = on.low in
      let order : c.in-Ok.start.line ≤ c.args.k = c.in-Ok.ensures.low in
      record-cause c.in-Err-walk.fault (c.args.k - c.in-Ok.start.first) (page_of c.reach.new.pair c.args.half) (view c.args.scratch.now) (view c.reach.new.scratch) c.in-Err-walk.ensures.cause
      (λ over. none-unless _ (λ b told.
      no-overrun c.args.layout b c.in-Ok.start (page_of c.reach.new.pair c.args.half) c.args.k c.requires.held.layout (c.requires.held.packs (omega arith) b told) on.page (on.told b (c.reach.ensures.told ∙ told)) (omega arith) c.in-Ok.ensures.high over)));
}

pub returns-in-Ok-walk-clause-size : goal.returns-in-Ok-walk-clause-size
returns-in-Ok-walk-clause-size g c = c.reach.ensures.size

pub returns-in-Ok-walk-clause-other : goal.returns-in-Ok-walk-clause-other
returns-in-Ok-walk-clause-other g c = c.reach.ensures.other

pub returns-in-Ok-walk-clause-passes : goal.returns-in-Ok-walk-clause-passes
returns-in-Ok-walk-clause-passes g c = c.reach.ensures.passes

pub returns-in-Ok-walk-clause-told : goal.returns-in-Ok-walk-clause-told
returns-in-Ok-walk-clause-told g c = c.reach.ensures.told

pub returns-in-Ok-walk-clause-reads : goal.returns-in-Ok-walk-clause-reads
returns-in-Ok-walk-clause-reads g c = c.reach.ensures.reads

pub returns-in-Ok-walk-clause-still : goal.returns-in-Ok-walk-clause-still
returns-in-Ok-walk-clause-still g c = c.reach.ensures.still

pub returns-in-Ok-walk-clause-marked : goal.returns-in-Ok-walk-clause-marked
returns-in-Ok-walk-clause-marked g c = c.walk.ensures.marked

pub returns-in-Ok-walk-clause-cause : goal.returns-in-Ok-walk-clause-cause
returns-in-Ok-walk-clause-cause g c = tt

pub returns-in-Err-clause-size : goal.returns-in-Err-clause-size
returns-in-Err-clause-size g c = c.in-Err.ensures.size

pub returns-in-Err-clause-other : goal.returns-in-Err-clause-other
returns-in-Err-clause-other g c = c.in-Err.ensures.other

pub returns-in-Err-clause-marked : goal.returns-in-Err-clause-marked
returns-in-Err-clause-marked g c = c.in-Err.ensures.marked

pub returns-in-Err-clause-passes : goal.returns-in-Err-clause-passes
returns-in-Err-clause-passes g c = c.in-Err.ensures.passes

pub returns-in-Err-clause-told : goal.returns-in-Err-clause-told
returns-in-Err-clause-told g c = c.in-Err.ensures.told

pub returns-in-Err-clause-reads : goal.returns-in-Err-clause-reads
returns-in-Err-clause-reads g c = c.in-Err.ensures.reads

pub returns-in-Err-clause-still : goal.returns-in-Err-clause-still
returns-in-Err-clause-still g c = c.in-Err.ensures.still

pub returns-in-Ok-walk-clause-line : goal.returns-in-Ok-walk-clause-line
returns-in-Ok-walk-clause-line g c = ap (λ p. p.line) c.in-Ok-walk.ensures.line

pub returns-in-Err-clause-loaded : goal.returns-in-Err-clause-loaded
returns-in-Err-clause-loaded g c = tt

pub returns-in-Err-clause-line : goal.returns-in-Err-clause-line
returns-in-Err-clause-line g c = tt

pub walk-requires-clause-marked : goal.walk-requires-clause-marked
walk-requires-clause-marked g c = c.in-Ok.ensures.marked

pub walk-requires-clause-low : goal.walk-requires-clause-low
walk-requires-clause-low g c = c.in-Ok.ensures.place.low

pub walk-requires-clause-place : goal.walk-requires-clause-place
walk-requires-clause-place g c = c.in-Ok.ensures.place.place

pub walk-requires-clause-within : goal.walk-requires-clause-within
walk-requires-clause-within g c = c.in-Ok.ensures.place.within

pub walk-requires-clause-order : goal.walk-requires-clause-order
walk-requires-clause-order g c = c.in-Ok.ensures.low

pub reach-requires-clause-held : goal.reach-requires-clause-held
reach-requires-clause-held g c = c.requires.held

pub reach-requires-clause-marked : goal.reach-requires-clause-marked
reach-requires-clause-marked g c = c.requires.marked

pub reach-requires-clause-low : goal.reach-requires-clause-low
reach-requires-clause-low g c = c.requires.low

pub reach-requires-clause-high : goal.reach-requires-clause-high
reach-requires-clause-high g c = c.requires.high
