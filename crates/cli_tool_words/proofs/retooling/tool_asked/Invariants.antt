use Rattle.std.proofs.Common.{◌≡◌, drop, false, map, string_bytes}
use Rattle.cli_tool_words.specs.Retooling.{tool_asked}
use Rattle.cli_tool_words.proofs.retooling.tool_asked.Given as goal

-- the tool that the words so far ask for becomes the whole's by what is left
abbrev pub invariant-loop-word : goal.invariant-loop-word
invariant-loop-word l = tool_asked l.ended l.asked (map string_bytes (drop l.word-index l.words)) ≡ tool_asked false l.fn.tool (map string_bytes l.words)
