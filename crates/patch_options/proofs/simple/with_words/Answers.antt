use Rattle.std.proofs.Common.{refl}
use Rattle.clap.specs.Words.{app_of}
use Rattle.patch_options.proofs.ByTable.{with_words, word_more, words_ended}
use Rattle.patch_options.proofs.simple.with_words.Goals as goal

pub loop-word-init : goal.loop-word-init
loop-word-init c = refl

pub loop-word-preserved : goal.loop-word-preserved
loop-word-preserved c =
    word_more (with_words (app_of c.args.command) c.args.words.now) c.loop-word.command c.in-Ok.longer c.argument_of.result c.args.words.now c.loop-word.word-index _
    c.loop-word-test.true c.loop-word.invariant c.argument_of.ensures.rule c.argument_of.ensures.local c.in-Ok.ensures

pub returns : goal.returns
returns c = words_ended (with_words (app_of c.args.command) c.args.words.now) c.loop-word.command c.args.words.now c.loop-word.word-index c.loop-word-test.false c.loop-word.invariant
