use Rattle.std.proofs.Common.{◌≡◌, ◌-◌, ◌≤◌, length, drop}
use Rattle.std.specs.List.{list_any}
use Rattle.line_list.specs.Lines.{lines}
use Rattle.patch_header.specs.GitHeaders.{extended_run}
use Rattle.patch_header.specs.NamesFit.{tells}
use Rattle.patch_header.proofs.names_fit.run_tells.Given as goal

abbrev pub invariant-lines : goal.invariant-lines
invariant-lines l = record {
  within : l.place ≤ length l.text;
  same : list_any (tells l.one l.two) (extended_run (lines (drop l.at l.text))) ≡ list_any (tells l.one l.two) (extended_run (lines (drop l.place l.text)));
}

abbrev pub decreases-lines : goal.decreases-lines
decreases-lines l = length l.text - l.place
