use Rattle.std.proofs.Common.{◌≡◌, ◌+◌, ◌*◌, subst, sym, arith, length, ◌<◌, ◌^◌}
use Rattle.line_list.specs.Feeds.{NoFeed}
use Rattle.line_list.specs.Lines.{IsLineAt}
use Rattle.line_list.proofs.FeedLemmas.{line-by, mark-fits, word-below, word-fits}
use Rattle.line_list.proofs.feeds.end_in.Goals as goal

pub returns-in-Some : goal.returns-in-Some
returns-in-Some c =
    let text = c.args.text.now in
    let base = c.args.feeds.now.at + 64 * c.args.word in
    let same : base + 0 ≡ base = omega arith in
    subst (λ n. IsLineAt text c.args.at (n + c.in-Some.k + 1)) same
    (line-by text c.args.at base _ 0 c.in-Some.k (omega (arith, c.requires.order)) (subst (NoFeed text c.args.at) (sym same) c.requires.before)
    (c.requires.feeds.each c.args.word (omega (arith, c.if-word-feeds.false)))
    (record { within = c.in-Some.ensures.within; set = c.in-Some.ensures.set; below = c.in-Some.ensures.below }))

pub returns-in-None : goal.returns-in-None
returns-in-None c = tt

pub returns-then-word-feeds : goal.returns-then-word-feeds
returns-then-word-feeds c = tt

pub bounds-feeds-word : goal.bounds-feeds-word
bounds-feeds-word c = word-below _ _ c.if-word-feeds.false c.requires.feeds.few

pub offset_bounds-feeds-word : goal.offset_bounds-feeds-word
offset_bounds-feeds-word c = (word-fits c.args.word (word-below _ _ c.if-word-feeds.false c.requires.feeds.few)).0

pub overflow_mul-result : goal.overflow_mul-result
overflow_mul-result c = (word-fits c.args.word (word-below _ _ c.if-word-feeds.false c.requires.feeds.few)).1

pub overflow_add-result : goal.overflow_add-result
overflow_add-result c = let long : length c.args.text.now < 2 ^ 64 = omega arith in (mark-fits c.in-Some.k (c.requires.feeds.each c.args.word c.if-word-feeds.false) long c.in-Some.ensures.within).0

pub overflow_add-result-in-Some : goal.overflow_add-result-in-Some
overflow_add-result-in-Some c = let long : length c.args.text.now < 2 ^ 64 = omega arith in (mark-fits c.in-Some.k (c.requires.feeds.each c.args.word c.if-word-feeds.false) long c.in-Some.ensures.within).1

pub overflow_add-result-in-Some-2 : goal.overflow_add-result-in-Some-2
overflow_add-result-in-Some-2 c = let long : length c.args.text.now < 2 ^ 64 = omega arith in (mark-fits c.in-Some.k (c.requires.feeds.each c.args.word c.if-word-feeds.false) long c.in-Some.ensures.within).2
