use Rattle.std.proofs.Common.{◌≡◌, drop}
use Rattle.filter_whole_text.specs.PartNames.{ends_in_mark}
use Rattle.filter_whole_text.proofs.naming.ends_in_mark.Given as goal

abbrev pub invariant-loop-at : goal.invariant-loop-at
invariant-loop-at l = ends_in_mark (drop l.at l.text) ≡ ends_in_mark l.text
