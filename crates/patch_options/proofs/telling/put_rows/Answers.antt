use Rattle.std.proofs.Common.{◌++◌, flat_map, string_bytes}
use Rattle.patch_options.specs.Usage.{row_text}
use Rattle.patch_options.proofs.Growing.{one_more, all_told}
use Rattle.patch_options.proofs.telling.put_rows.Goals as goal

pub loop-word-preserved : goal.loop-word-preserved
loop-word-preserved c =
    one_more row_text c.args.words.now c.loop-word.word-index _ (string_bytes c.loop-word.text) (string_bytes c.put_row.new.text) (string_bytes c.args.text.now ++ flat_map row_text c.args.words.now)
    c.loop-word-test.true c.loop-word.invariant c.in_ok-put_row.ensures

pub returns : goal.returns
returns c =
    all_told row_text c.args.words.now c.loop-word.word-index (string_bytes c.loop-word.text) (string_bytes c.args.text.now ++ flat_map row_text c.args.words.now) c.loop-word-test.false c.loop-word.invariant
