use Rattle.std.proofs.Common.{◌≡◌, ◌++◌, drop, map, string_bytes}
use Rattle.patch_options.specs.Simple.{plain_table}
use Rattle.cli_tool_words.specs.Operands.{kept_of}
use Rattle.cli_tool_words.specs.declared.operands.Next.TheVariants.{Any}
use Rattle.cli_tool_words.proofs.operands.add_kept.Given as goal

-- the words so far, with those that are kept of what is left
abbrev pub invariant-loop-word : goal.invariant-loop-word
invariant-loop-word l =
    map string_bytes l.kept.items ++ kept_of l.files (plain_table l.table) l.leads l.next (map string_bytes (drop l.word-index l.words))
    ≡ map string_bytes l.fn.kept.items ++ kept_of l.files (plain_table l.table) l.fn.leads Any (map string_bytes l.words)
