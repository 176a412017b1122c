use Rattle.std.proofs.Common.{◌≡◌, ◌++◌, drop, flat_map, map}
use Rattle.patch_options.proofs.LongNames.{word_names}
use Rattle.patch_options.proofs.whole.add_names.Given as goal

-- the names so far, with those of the words that are left
abbrev pub invariant-loop-word : goal.invariant-loop-word
invariant-loop-word l = map (λ n. n.now) l.names.items ++ flat_map word_names (drop l.word-index l.words) ≡ map (λ n. n.now) l.fn.names.items ++ flat_map word_names l.words
