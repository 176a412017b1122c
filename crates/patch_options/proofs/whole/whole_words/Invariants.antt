use Rattle.std.proofs.Common.{◌≡◌, ◌++◌, drop, map, string_bytes}
use Rattle.patch_options.specs.Simple.{plain_table}
use Rattle.patch_options.specs.Whole.{long_names, whole_words}
use Rattle.patch_options.proofs.LongNames.{left_in}
use Rattle.patch_options.proofs.whole.whole_words.Given as goal

-- the words so far, with those that are left
abbrev pub invariant-loop-word : goal.invariant-loop-word
invariant-loop-word l =
    map string_bytes l.whole.items ++ left_in l.is_open (long_names (plain_table l.table)) (map string_bytes (drop l.word-index l.words)) ≡ whole_words (plain_table l.table) (map string_bytes l.words)
