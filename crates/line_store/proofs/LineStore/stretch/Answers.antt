use Rattle.std.proofs.Common.{◌≡◌, ◌+◌, ◌-◌, ◌≤◌, length, sym, ap, ◌∙◌, arith}
use Rattle.line_list.specs.Join.{lacks_feed}
use Rattle.line_store.proofs.StoreLemmas.{join-one, end-one}
use Rattle.line_store.proofs.LineStore.stretch.Goals as goal

pub returns-clause-bytes : goal.returns-clause-bytes
returns-clause-bytes g c lines k told held = c.line.ensures lines k told held ∙ sym (join-one lines (k - 1))

pub returns-clause-end : goal.returns-clause-end
returns-clause-end g c lines k told held =
    let count : (g.Self.LineStore.seen c.args.self.now).count ≡ length lines = (g.met.Self.LineStore.counted c.args.self.now).told lines told in
    let low : 1 ≤ k = (c.requires.room k held).0 in
    let high : k + c.args.most ≤ (g.Self.LineStore.seen c.args.self.now).count + 1 = (c.requires.room k held).1 in
    ap lacks_feed (c.line.ensures lines k told held) ∙ end-one lines (k - 1) (omega (arith, c.requires.some))
