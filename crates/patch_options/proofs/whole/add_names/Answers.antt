use Rattle.std.proofs.Common.{◌++◌, flat_map, map}
use Rattle.patch_options.proofs.Growing.{one_more, all_told}
use Rattle.patch_options.proofs.LongNames.{word_names}
use Rattle.patch_options.proofs.whole.add_names.Goals as goal

pub loop-word-preserved : goal.loop-word-preserved
loop-word-preserved c =
    one_more word_names c.args.words.now c.loop-word.word-index _ (map (λ n. n.now) c.loop-word.names.items) (map (λ n. n.now) c.add_name.new.names.items) (map (λ n. n.now) c.args.names.now.items ++ flat_map word_names c.args.words.now)
    c.loop-word-test.true c.loop-word.invariant c.in_ok-add_name.ensures

pub returns : goal.returns
returns c =
    all_told word_names c.args.words.now c.loop-word.word-index (map (λ n. n.now) c.loop-word.names.items) (map (λ n. n.now) c.args.names.now.items ++ flat_map word_names c.args.words.now) c.loop-word-test.false c.loop-word.invariant
