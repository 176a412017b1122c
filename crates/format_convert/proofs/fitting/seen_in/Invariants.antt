use Rattle.std.proofs.Common.{take}
use Rattle.std.specs.List.{flat_map}
use Rattle.format_convert.specs.Fitting.{changed_lines}
use Rattle.format_convert.specs.Seeing.{Sees}
use Rattle.format_convert.specs.Walk.{pairs}
use Rattle.format_convert.proofs.FitLemmas.{hunks_if}
use Rattle.format_convert.proofs.fitting.seen_in.Given as goal

abbrev pub invariant-loop-hunk : goal.invariant-loop-hunk
invariant-loop-hunk l = Sees l.seen (changed_lines l.side (flat_map (hunks_if l.kept.set.now.text) (take l.hunk (pairs l.kept))))
