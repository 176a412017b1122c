use Rattle.std.proofs.Common.{arith}
use Rattle.patch_filters.proofs.row_parts.is_kept.Goals as goal

pub bounds-row-hunk : goal.bounds-row-hunk
bounds-row-hunk c = omega (arith, c.requires.hunk, c.requires.row.flags)
