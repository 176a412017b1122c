use Rattle.std.proofs.Common.{◌≡◌, ◌*◌, ◌≤◌, ℕ, List, length}
use Rattle.std.specs.List.{flat_map, range_with_len}
use Rattle.patch_gen.specs.Patches.{hunk_text}
use Rattle.patch_gen.proofs.room.hunks_length.Given as goal

abbrev pub invariant-loop-done : goal.invariant-loop-done
invariant-loop-done l = record {
  exact : (line : ℕ → List ℕ) → ((j : ℕ) → length (line j) ≡ 12) → length (flat_map (hunk_text line) (range_with_len 1 l.done)) ≡ l.total;
  small : l.total ≤ 158 * l.done;
}
