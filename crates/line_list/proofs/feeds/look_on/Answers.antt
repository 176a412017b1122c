use Rattle.std.proofs.Common.{◌∙◌, length-set, arith}
use Rattle.line_list.proofs.FeedLemmas.{marks-more}
use Rattle.line_list.proofs.feeds.look_on.Goals as goal

pub loop-word-preserved : goal.loop-word-preserved
loop-word-preserved c =
    let marks = c.loop-word.marks in
    let word = c.loop-word.word in
    record {
      long = length-set marks word c.marks_at.result ∙ c.loop-word.invariant.long;
      done = marks-more c.args.text.now c.args.at marks word c.marks_at.result (omega (arith, c.loop-word.invariant.long, c.loop-word-test.true, c.min-count.ensures)) c.loop-word.invariant.done c.marks_at.ensures;
    }

pub returns : goal.returns
returns c = record { few = omega (arith, c.min-count.ensures); each = λ w l. c.loop-word.invariant.done w (omega (arith, c.loop-word-test.false, l)) }
