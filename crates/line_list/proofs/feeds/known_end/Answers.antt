use Rattle.std.proofs.Common.{◌≡◌, ◌+◌, ◌-◌, ◌*◌, ◌/◌, ◌%◌, refl, subst, arith}
use Rattle.line_list.specs.Feeds.{NoFeed}
use Rattle.line_list.specs.Lines.{IsLineAt}
use Rattle.line_list.proofs.FeedLemmas.{line-by, no-feed-left, word-below, word-fits, next-word, within-word}
use Rattle.line_list.proofs.feeds.known_end.Goals as goal

pub end_in-requires-clause-before : goal.end_in-requires-clause-before
end_in-requires-clause-before c =
    let text = c.args.text.now in
    let f = c.args.feeds.now in
    let passed = c.args.at - f.at in
    let word = passed / 64 in
    let from = passed % 64 in
    let marks = c.requires.feeds.each word (omega (arith, c.if-word-feeds.false)) in
    let here : f.at + 64 * word + from ≡ c.args.at = omega (arith, c.if-at-feeds.false) in
    let there : f.at + 64 * word + 64 ≡ f.at + 64 * (word + 1) = omega arith in
    let left : NoFeed text (f.at + 64 * word + from) (f.at + 64 * word + 64) = no-feed-left text (f.at + 64 * word) _ from marks (c.in-None.ensures.none refl) in
    subst (NoFeed text c.args.at) there (subst (λ n. NoFeed text n (f.at + 64 * word + 64)) here left)

pub returns-in-Some : goal.returns-in-Some
returns-in-Some c =
    let text = c.args.text.now in
    let f = c.args.feeds.now in
    let passed = c.args.at - f.at in
    let word = passed / 64 in
    let from = passed % 64 in
    let marks = c.requires.feeds.each word (omega (arith, c.if-word-feeds.false)) in
    let here : f.at + 64 * word + from ≡ c.args.at = omega (arith, c.if-at-feeds.false) in
    subst (λ n. IsLineAt text c.args.at (n + c.in-Some.k + 1)) here
    (line-by text c.args.at (f.at + 64 * word) _ from c.in-Some.k (omega (arith, here)) (λ j above below feed. absurd (omega (arith, here))) marks
    (record { within = c.in-Some.ensures.within; set = c.in-Some.ensures.set; below = c.in-Some.ensures.below }))

pub returns-then-at-feeds : goal.returns-then-at-feeds
returns-then-at-feeds c = tt

pub returns-then-word-feeds : goal.returns-then-word-feeds
returns-then-word-feeds c = tt

pub overflow_sub-passed : goal.overflow_sub-passed
overflow_sub-passed c = c.if-at-feeds.false

pub bounds-feeds-word : goal.bounds-feeds-word
bounds-feeds-word c = word-below _ _ c.if-word-feeds.false c.requires.feeds.few

pub offset_bounds-feeds-word : goal.offset_bounds-feeds-word
offset_bounds-feeds-word c = (word-fits _ (word-below _ _ c.if-word-feeds.false c.requires.feeds.few)).0

pub first_mark-requires : goal.first_mark-requires
first_mark-requires c = within-word (c.args.at - c.args.feeds.now.at)

pub overflow_add-word : goal.overflow_add-word
overflow_add-word c = (word-fits _ (word-below _ _ c.if-word-feeds.false c.requires.feeds.few)).2

pub end_in-requires-clause-feeds : goal.end_in-requires-clause-feeds
end_in-requires-clause-feeds c = c.requires.feeds

pub end_in-requires-clause-order : goal.end_in-requires-clause-order
end_in-requires-clause-order c = next-word c.args.at c.args.feeds.now.at c.if-at-feeds.false

pub returns-in-None : goal.returns-in-None
returns-in-None c = c.end_in.ensures
