use Rattle.std.proofs.Common.{◌≡◌, ◌==◌, drop, length}
use Rattle.std.specs.List.{slice_split}
use Rattle.cli_tool_words.specs.Ranges.{items_by}
use Rattle.cli_tool_words.proofs.Items.{read_then}
use Rattle.cli_tool_words.proofs.ranges.items_of.Given as goal

-- the items so far stand before those of the parts that are left
abbrev pub invariant-loop-part : goal.invariant-loop-part
invariant-loop-part l =
    items_by (slice_split (λ b. b == 44) l.text) ≡ read_then l.items.items (drop (length l.yielded) (slice_split (λ b. b == 44) l.text))
