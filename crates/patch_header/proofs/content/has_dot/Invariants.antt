use Rattle.std.proofs.Common.{◌≡◌, ◌-◌, ◌≤◌, length, drop}
use Rattle.line_list.specs.Lines.{lines}
use Rattle.patch_header.specs.Content.{has_dot}
use Rattle.patch_header.proofs.content.has_dot.Given as goal

abbrev pub invariant-lines : goal.invariant-lines
invariant-lines l = record {
  within : l.place ≤ length l.text;
  same : has_dot (lines (drop l.at l.text)) ≡ has_dot (lines (drop l.place l.text));
}

abbrev pub decreases-lines : goal.decreases-lines
decreases-lines l = length l.text - l.place
