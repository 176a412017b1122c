use Rattle.std.proofs.Common.{◌≡◌, drop, false, map, string_bytes}
use Rattle.patch_options.specs.Simple.{plain_table}
use Rattle.cli_tool_words.specs.Retooling.{give_file}
use Rattle.cli_tool_words.proofs.retooling.give_file.Given as goal

-- no word so far gives a file
abbrev pub invariant-loop-word : goal.invariant-loop-word
invariant-loop-word l = give_file (plain_table l.table) l.ended (map string_bytes (drop l.word-index l.words)) ≡ give_file (plain_table l.table) false (map string_bytes l.words)
