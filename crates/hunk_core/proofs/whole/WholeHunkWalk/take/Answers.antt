use Rattle.std.proofs.Common.{refl, arith}
use Rattle.hunk_core.specs.PlainHunk.{hunk_of}
use Rattle.hunk_core.proofs.Keeping.{fewer-behind, kept-push}
use Rattle.hunk_core.proofs.whole.WholeHunkWalk.take.Goals as goal

pub returns-clause-taken : goal.returns-clause-taken
returns-clause-taken g c =
    let read = c.in_ok-hunk.ensures in
    record {
      first = hunk_of c.args.text.now c.in_ok-hunk.hunk;
      starts = refl;
      read = read.exact;
      fewer = fewer-behind c.args.text.now c.args.place.at c.in_ok-hunk.next.at read.place.1 read.place.0.within read.whole;
      has = λ from hs kept. rw (c.in_ok-push-2.ensures.items, c.in_ok-push.ensures.items) (kept-push g.F.HunkForm.Spells c.args.text.now from hs c.args.place.at c.in_ok-hunk.next.at c.args.least c.args.self.now.items.items c.args.self.now.spans.items c.in_ok-hunk.hunk read.place.1 read.whole read.piece (omega (arith, read.few)) read.lawful read.unbroken kept);
    }
