use Rattle.std.proofs.Common.{rules}
use Rattle.hunk_core.proofs.Walks.{gathered-more, gathered-all, room-left}
use Rattle.hunk_core.proofs.gather.add_piece.Goals as goal

pub loop-byte-preserved : goal.loop-byte-preserved
loop-byte-preserved g c = gathered-more c.args.gathered.now.items c.args.piece.now c.loop-byte.gathered.items c.push.new.self.items c.loop-byte.byte-index c.loop-byte-test.true c.loop-byte.invariant c.push.ensures.items

pub returns : goal.returns
returns g c = gathered-all c.args.gathered.now.items c.args.piece.now c.loop-byte.gathered.items c.loop-byte.byte-index c.loop-byte-test.false c.loop-byte.invariant

pub push-requires : goal.push-requires
push-requires g c = (search rules, room-left c.args.gathered.now.items c.args.piece.now c.loop-byte.gathered.items c.loop-byte.byte-index g.row.N c.loop-byte-test.true c.loop-byte.invariant c.requires)
