use Rattle.std.proofs.Common.{arith, ap, get_or, [], List, ℕ, ◌<◌, subst}
use Rattle.hunk_core.proofs.SideLemmas.{turned-lines, lines-counted}
use Rattle.hunk_core.proofs.Walks.{below-length, past-length, some-left, lies-at, rest-taken, rest-passed, rest-none, first-left, next-taken, next-passed, none-left}
use Rattle.hunk_core.proofs.Hunk.pattern.Goals.{then-is_taken+else-left-eq0, else-is_taken}
use Rattle.hunk_core.proofs.Hunk.pattern.Goals as goal

pub loop-k-init : goal.loop-k-init
loop-k-init c = record {
  within = omega (arith, lines-counted c.args.text.now c.args.side c.args.self.now.body.items);
  same = ap (λ (ls : List (List ℕ)). get_or ls c.args.i []) (turned-lines c.args.text.now c.args.side c.args.self.now);
}

pub index-line-requires : goal.index-line-requires
index-line-requires c = subst (λ n. c.loop-k.k < n) c.len-k-end.ensures c.loop-k-test.true

pub slice_bounds-result-count : goal.slice_bounds-result-count
slice_bounds-result-count c = (lies-at c.args.text.now c.args.side c.args.self.now.body.items c.loop-k.k c.index-line.result.now (below-length c.args.self.now c.loop-k.k c.len-k-end.result c.loop-k-test.true c.len-k-end.ensures) c.index-line.ensures c.requires.lawful.within).0

pub slice_bounds-result-start : goal.slice_bounds-result-start
slice_bounds-result-start c = (lies-at c.args.text.now c.args.side c.args.self.now.body.items c.loop-k.k c.index-line.result.now (below-length c.args.self.now c.loop-k.k c.len-k-end.result c.loop-k-test.true c.len-k-end.ensures) c.index-line.ensures c.requires.lawful.within).0

pub slice_bounds-result-end : goal.slice_bounds-result-end
slice_bounds-result-end c = (lies-at c.args.text.now c.args.side c.args.self.now.body.items c.loop-k.k c.index-line.result.now (below-length c.args.self.now c.loop-k.k c.len-k-end.result c.loop-k-test.true c.len-k-end.ensures) c.index-line.ensures c.requires.lawful.within).1

pub overflow_sub-left : goal.overflow_sub-left
overflow_sub-left c = some-left c.loop-k.left c.if-left-eq0.false

pub returns-then-left-eq0 : goal.returns-then-left-eq0
returns-then-left-eq0 c = first-left _ _ _ _ c.loop-k.left c.loop-k.left c.loop-k.invariant.same c.if-left-eq0.true (rest-taken c.args.text.now c.args.side c.args.self.now.body.items c.loop-k.k c.index-line.result.now (below-length c.args.self.now c.loop-k.k c.len-k-end.result c.loop-k-test.true c.len-k-end.ensures) c.index-line.ensures c.if-is_taken.ensures)

pub loop-k-preserved : goal.loop-k-preserved
loop-k-preserved c =
    let i = c.loop-k.k in
    let lt = below-length c.args.self.now i c.len-k-end.result c.loop-k-test.true c.len-k-end.ensures in
    elim c.if-is_taken.branch [
      | then-is_taken+else-left-eq0 w ↦ (
          let h = next-taken _ _ _ _ c.loop-k.left c.if-is_taken.left c.loop-k.invariant.same c.loop-k.invariant.within w.if-left-eq0.false w.left-is (rest-taken c.args.text.now c.args.side c.args.self.now.body.items i c.index-line.result.now lt c.index-line.ensures w.if-is_taken.ensures) in
          record { within = h.0; same = h.1 })
      | else-is_taken w ↦ (
          let h = next-passed _ [] _ _ c.loop-k.left c.if-is_taken.left c.loop-k.invariant.same c.loop-k.invariant.within w.left-is (rest-passed c.args.text.now c.args.side c.args.self.now.body.items i c.index-line.result.now lt c.index-line.ensures w.if-is_taken.ensures) in
          record { within = h.0; same = h.1 })
    ]

pub returns : goal.returns
returns c = absurd (none-left _ c.loop-k.left c.loop-k.invariant.within (rest-none c.args.text.now c.args.side c.args.self.now.body.items c.loop-k.k (past-length c.args.self.now c.loop-k.k c.len-k-end.result c.loop-k-test.false c.len-k-end.ensures)))
