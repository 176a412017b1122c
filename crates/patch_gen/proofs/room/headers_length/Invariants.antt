use Rattle.std.proofs.Common.{◌≡◌, ◌*◌, ◌≤◌, length}
use Rattle.std.specs.List.{flat_map, range_with_len}
use Rattle.patch_gen.specs.Patches.{header_lines}
use Rattle.patch_gen.proofs.room.headers_length.Given as goal

abbrev pub invariant-loop-done : goal.invariant-loop-done
invariant-loop-done l = record {
  exact : length (flat_map header_lines (range_with_len 1 l.done)) ≡ l.total;
  small : l.total ≤ 60 * l.done;
}
