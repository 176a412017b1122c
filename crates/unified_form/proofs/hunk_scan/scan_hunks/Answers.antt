use Rattle.std.proofs.Common.{refl}
use Rattle.unified_form.proofs.Rowing.{skimmed-is}
use Rattle.unified_form.proofs.hunk_scan.scan_hunks.Goals as goal

pub walk-requires-clause-ready : goal.walk-requires-clause-ready
walk-requires-clause-ready c = c.unknown.ensures c.args.text.now

pub returns : goal.returns
returns c =
    let taken = c.in_ok-end.ensures.taken in
    let kept = c.walk.new.kept in
    let s = skimmed-is c.args.text.now c.args.at c.args.line kept.is_none (record { first = kept.first; more = kept.more; end = c.in_ok-end.end.at; next = c.in_ok-end.end.number }) taken.hunks c.requires.opens taken.read (taken.has (refl, refl, refl)) in
    record { within = (s.some, c.in_ok-end.ensures.within); lawful = s.lawful; few = s.lawful.few; read = s.is; fails = tt }
