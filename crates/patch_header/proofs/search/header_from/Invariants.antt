use Rattle.std.proofs.Common.{◌≡◌, ◌-◌, true, false, length, drop}
use Rattle.line_list.specs.Lines.{lines}
use Rattle.patch_header.specs.Content.{has_dot}
use Rattle.patch_header.specs.Searching.{HasPassed, IsLawful}
use Rattle.patch_header.proofs.search.header_from.Given as goal

abbrev pub invariant-lines : goal.invariant-lines
invariant-lines l = record {
  passed : HasPassed l.ways l.text l.at l.line l.here;
  lawful : IsLawful l.text l.here;
  known : l.known ≡ true → has_dot (lines (drop l.here.at l.text)) ≡ false;
}

abbrev pub decreases-lines : goal.decreases-lines
decreases-lines l = length l.text - l.here.at
