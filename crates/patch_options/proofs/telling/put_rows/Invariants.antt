use Rattle.std.proofs.Common.{◌≡◌, ◌++◌, drop, flat_map, string_bytes}
use Rattle.patch_options.specs.Usage.{row_text}
use Rattle.patch_options.proofs.telling.put_rows.Given as goal

-- the text so far, with what those give that are left
abbrev pub invariant-loop-word : goal.invariant-loop-word
invariant-loop-word l = string_bytes l.text ++ flat_map row_text (drop l.word-index l.words) ≡ string_bytes l.fn.text ++ flat_map row_text l.words
