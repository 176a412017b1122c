use Rattle.std.proofs.Common.{◌≡◌, drop}
use Rattle.std.specs.List.{flat_map}
use Rattle.format_convert.specs.Fitting.{falls_back, falls_behind}
use Rattle.format_convert.specs.Walk.{left_hunks, pairs}
use Rattle.format_convert.proofs.FitLemmas.{hunks_if}
use Rattle.format_convert.proofs.fitting.falls_back.Given as goal

abbrev pub invariant-loop-hunk : goal.invariant-loop-hunk
invariant-loop-hunk l = falls_back (left_hunks l.kept) ≡ falls_behind l.end (flat_map (hunks_if l.kept.set.now.text) (drop l.hunk (pairs l.kept)))
