use Rattle.std.proofs.Common.{◌≡◌, ◌++◌, drop, length}
use Rattle.std.specs.List.{slice_split}
use Rattle.cli_tool_words.specs.PlainJobs.{plain_style}
use Rattle.filter_style.specs.Names.{is_blank, words}
use Rattle.filter_style.specs.declared.names.NextName.TheVariants.{Old}
use Rattle.filter_style.proofs.names.put_words.Given as goal

-- the words so far, with what is made of those that are left
abbrev pub invariant-loop-word : goal.invariant-loop-word
invariant-loop-word l =
    l.out.items ++ words (plain_style l.style) l.turn (drop (length l.yielded) (slice_split is_blank l.text))
    ≡ l.fn.out.items ++ words (plain_style l.style) Old (slice_split is_blank l.text)
