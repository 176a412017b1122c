use Rattle.std.proofs.Common.{◌≡◌, ◌++◌}
use Rattle.std.specs.List.{flat_map, range_with_len}
use Rattle.patch_gen.specs.Texts.{line_in}
use Rattle.patch_gen.specs.Patches.{hunk_text}
use Rattle.patch_gen.proofs.diff.add_hunks.Given as goal

abbrev pub invariant-loop-done : goal.invariant-loop-done
invariant-loop-done l = l.patch.items ≡ l.initial.patch.items ++ flat_map (hunk_text (line_in l.lines)) (range_with_len 1 l.done)
