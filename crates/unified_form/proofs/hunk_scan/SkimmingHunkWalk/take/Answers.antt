use Rattle.std.proofs.Common.{refl}
use Rattle.hunk_core.specs.PlainHunk.{hunk_of}
use Rattle.hunk_core.proofs.Keeping.{fewer-behind}
use Rattle.unified_form.proofs.Rowing.{first-kept, first-stays, row-taken}
use Rattle.unified_form.proofs.hunk_scan.SkimmingHunkWalk.take.Goals as goal

pub returns-then-self-clause-taken : goal.returns-then-self-clause-taken
returns-then-self-clause-taken c =
    let text = c.args.text.now in
    let before = c.args.self.now in
    let h = c.in_ok-hunk.hunk in
    let read = c.in_ok-hunk.ensures in
    record {
      first = hunk_of text h;
      starts = refl;
      read = read.exact;
      fewer = fewer-behind text c.args.place.at c.in_ok-hunk.next.at read.place.1 read.place.0.within read.whole;
      has = λ from hs has. first-kept text from hs c.args.place.at c.in_ok-hunk.next.at before.is_none before.more before.first h c.if-self.true read.place.1 read.lawful has;
    }

pub returns-clause-taken : goal.returns-clause-taken
returns-clause-taken c =
    let row = c.in_ok-old.ensures in
    let before = c.args.self.now in
    row-taken _ c.args.text.now c.args.least c.args.place c.in_ok-old.next c.in_ok-old.old before _ row.place row.row
    (λ from hs has. first-stays c.args.text.now from hs c.args.place.at c.in_ok-old.next.at before.is_none before.more before.first row.row.hunk c.if-self.false row.place.1 has)
