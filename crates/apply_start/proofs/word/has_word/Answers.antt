use Rattle.std.proofs.Common.{◌≡◌, ◌∙◌, sym, arith, length}
use Rattle.line_store.proofs.StoreLemmas.{keeps-more}
use Rattle.apply_start.proofs.Runs.{found-here, none-more, none-whole}
use Rattle.apply_start.proofs.word.has_word.Goals as goal

pub returns-then-branch-clause-value : goal.returns-then-branch-clause-value
returns-then-branch-clause-value g c lines told =
    let count : c.count-count.result ≡ length lines = c.count-count.ensures.is ∙ (c.count-count.ensures.told lines told).count in
    sym (found-here c.args.word.now lines c.loop-k.k (omega (arith, count, c.loop-k-test.true))
    (sym (c.in_ok-has_word_at.ensures.value lines (c.loop-k.invariant.keeps.told ∙ told)) ∙ c.if-branch.true))

pub loop-k-preserved : goal.loop-k-preserved
loop-k-preserved g c = record {
  keeps = keeps-more _ _ _ c.loop-k.invariant.keeps c.in_ok-has_word_at.ensures.keeps;
  none = λ lines told.
      let count : c.count-count.result ≡ length lines = c.count-count.ensures.is ∙ (c.count-count.ensures.told lines told).count in
      none-more c.args.word.now lines c.loop-k.k (omega (arith, count, c.loop-k-test.true)) (c.loop-k.invariant.none lines told)
      (sym (c.in_ok-has_word_at.ensures.value lines (c.loop-k.invariant.keeps.told ∙ told)) ∙ c.if-branch.false);
}

pub returns-clause-value : goal.returns-clause-value
returns-clause-value g c lines told =
    let count : c.count-count.result ≡ length lines = c.count-count.ensures.is ∙ (c.count-count.ensures.told lines told).count in
    sym (none-whole c.args.word.now lines c.loop-k.k (omega (arith, count, c.loop-k-test.false, c.loop-k.auto.k-end)) (c.loop-k.invariant.none lines told))
