use Rattle.std.proofs.Common.{◌<◌, subst, ◌∙◌}
use Rattle.hunk_core.specs.PlainHunk.{hunk_of, lines_on}
use Rattle.hunk_core.proofs.SideLemmas.{lacks-behind}
use Rattle.hunk_core.proofs.Walks.{below-length, past-length, lies-at, rest-taken, rest-passed, rest-none, lacks-none, lacks-now, lacks-taken, lacks-passed}
use Rattle.hunk_core.proofs.Hunk.has_inner_end.Goals.{then-is_taken+else-not-ended, else-is_taken}
use Rattle.hunk_core.proofs.Hunk.has_inner_end.Goals as goal

pub loop-i-init : goal.loop-i-init
loop-i-init c = lacks-behind (lines_on c.args.side (hunk_of c.args.text.now c.args.self.now).body)

pub index-line-requires : goal.index-line-requires
index-line-requires c = subst (λ n. c.loop-i.i < n) c.len-i-end.ensures c.loop-i-test.true

pub slice_bounds-has_feed-count : goal.slice_bounds-has_feed-count
slice_bounds-has_feed-count c = (lies-at c.args.text.now c.args.side c.args.self.now.body.items c.loop-i.i c.index-line.result.now (below-length c.args.self.now c.loop-i.i c.len-i-end.result c.loop-i-test.true c.len-i-end.ensures) c.index-line.ensures c.requires.within).0

pub slice_bounds-has_feed-start : goal.slice_bounds-has_feed-start
slice_bounds-has_feed-start c = (lies-at c.args.text.now c.args.side c.args.self.now.body.items c.loop-i.i c.index-line.result.now (below-length c.args.self.now c.loop-i.i c.len-i-end.result c.loop-i-test.true c.len-i-end.ensures) c.index-line.ensures c.requires.within).0

pub slice_bounds-has_feed-end : goal.slice_bounds-has_feed-end
slice_bounds-has_feed-end c = (lies-at c.args.text.now c.args.side c.args.self.now.body.items c.loop-i.i c.index-line.result.now (below-length c.args.self.now c.loop-i.i c.len-i-end.result c.loop-i-test.true c.len-i-end.ensures) c.index-line.ensures c.requires.within).1

pub returns-then-not-ended : goal.returns-then-not-ended
returns-then-not-ended c = lacks-now _ c.loop-i.ended _ c.loop-i.invariant _ _ (rest-taken c.args.text.now c.args.side c.args.self.now.body.items c.loop-i.i c.index-line.result.now (below-length c.args.self.now c.loop-i.i c.len-i-end.result c.loop-i-test.true c.len-i-end.ensures) c.index-line.ensures c.if-is_taken.ensures) c.if-not-ended.true

pub loop-i-preserved : goal.loop-i-preserved
loop-i-preserved c =
    let i = c.loop-i.i in
    let lt = below-length c.args.self.now i c.len-i-end.result c.loop-i-test.true c.len-i-end.ensures in
    elim c.if-is_taken.branch [
      | then-is_taken+else-not-ended w ↦
          lacks-taken _ c.loop-i.ended _ c.loop-i.invariant _ _ c.if-is_taken.ended (rest-taken c.args.text.now c.args.side c.args.self.now.body.items i c.index-line.result.now lt c.index-line.ensures w.if-is_taken.ensures) w.if-not-ended.false (w.ended-is ∙ w.has_feed-ended.ensures)
      | else-is_taken w ↦
          lacks-passed _ c.loop-i.ended _ c.loop-i.invariant _ c.if-is_taken.ended (rest-passed c.args.text.now c.args.side c.args.self.now.body.items i c.index-line.result.now lt c.index-line.ensures w.if-is_taken.ensures) w.ended-is
    ]

pub returns : goal.returns
returns c = lacks-none _ c.loop-i.ended _ c.loop-i.invariant (rest-none c.args.text.now c.args.side c.args.self.now.body.items c.loop-i.i (past-length c.args.self.now c.loop-i.i c.len-i-end.result c.loop-i-test.false c.len-i-end.ensures))
