use Rattle.std.proofs.Common.{◌≡◌, ◌-◌, ◌≤◌, length, drop}
use Rattle.std.specs.List.{list_any}
use Rattle.line_list.specs.Lines.{lines}
use Rattle.patch_cli.specs.Damaged.{is_damaged}
use Rattle.patch_cli.proofs.damaged.tells_damaged.Given as goal

-- none of the lines so far is one
abbrev pub invariant-lines : goal.invariant-lines
invariant-lines l = record {
  within : l.at ≤ length l.part;
  same : list_any is_damaged (lines l.part) ≡ list_any is_damaged (lines (drop l.at l.part));
}

abbrev pub decreases-lines : goal.decreases-lines
decreases-lines l = length l.part - l.at
