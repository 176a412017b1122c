use Rattle.std.proofs.Common.{◌≡◌, ◌++◌, ◌-◌}
use Rattle.std.specs.List.{flat_map, range_with_len}
use Rattle.read_file_patch.specs.PlainPatch.{hunk_count}
use Rattle.patch_filters.specs.Rows.{plain, telling, texts}
use Rattle.patch_filters.specs.Told.{noted_if}
use Rattle.patch_filters.proofs.noting.put_noted_each.Given as goal

-- the hunks so far, with those that are left
abbrev pub invariant-loop-hunk : goal.invariant-loop-hunk
invariant-loop-hunk l =
    l.out.items ++ flat_map (noted_if (telling l.row) l.row.flags.now (plain l.row) (texts l.row)) (range_with_len l.hunk (hunk_count (plain l.row).change - l.hunk))
    ≡ l.fn.out.items ++ flat_map (noted_if (telling l.row) l.row.flags.now (plain l.row) (texts l.row)) (range_with_len 0 (hunk_count (plain l.row).change))
