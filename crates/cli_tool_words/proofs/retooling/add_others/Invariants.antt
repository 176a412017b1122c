use Rattle.std.proofs.Common.{◌≡◌, ◌++◌, drop, false, map, string_bytes}
use Rattle.cli_tool_words.specs.Retooling.{others_in}
use Rattle.cli_tool_words.proofs.retooling.add_others.Given as goal

-- the words so far, with those that are kept of what is left
abbrev pub invariant-loop-word : goal.invariant-loop-word
invariant-loop-word l = map string_bytes l.made.items ++ others_in l.ended (map string_bytes (drop l.word-index l.words)) ≡ map string_bytes l.fn.made.items ++ others_in false (map string_bytes l.words)
