use Rattle.std.proofs.Common.{◌≡◌, map, string_bytes, drop}
use Rattle.cli_program_words.specs.Told.{asks}
use Rattle.cli_program_words.proofs.help.told_in.Given as goal

-- what the words in front ask is nothing
abbrev pub invariant-loop-word : goal.invariant-loop-word
invariant-loop-word l = asks l.tool (map string_bytes l.words) ≡ asks l.tool (map string_bytes (drop l.word-index l.words))
