use Rattle.std.proofs.Common.{◌≡◌, ◌≤◌, ◌+◌, ◌^◌, length}
use Rattle.format_convert.specs.Blocks.{blocks_of, hunk_edits}
use Rattle.format_convert.specs.Fitting.{has_large_command}
use Rattle.format_convert.specs.Walk.{edits_left, left_hunks}
use Rattle.format_convert.proofs.FitLemmas.{has_large}
use Rattle.format_convert.proofs.fitting.has_large.Given as goal

abbrev pub invariant-loop-block : goal.invariant-loop-block
invariant-loop-block l = record {
  large : has_large_command l.form (blocks_of (hunk_edits (left_hunks l.kept))) ≡ has_large l.form l.net.adds l.net.drops (blocks_of (edits_left l.kept l.place));
  small : l.net.adds + l.net.drops + length (edits_left l.kept l.place) ≤ 2 ^ 32;
}

abbrev pub decreases-loop-block : goal.decreases-loop-block
decreases-loop-block l = length (edits_left l.kept l.place)
