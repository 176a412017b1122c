use Rattle.patch_filters.proofs.HunkTexts.{HasHunks}
use Rattle.patch_filters.specs.Told.{is_set}
use Rattle.patch_filters.proofs.numbering.put_numbered_hunks.Given as goal

abbrev pub invariant-loop-place : goal.invariant-loop-place
invariant-loop-place l = HasHunks l.row.set.now.text l.side (is_set l.row.flags.now) l.hunks l.fn.out.items l.out.items l.passed.later l.passed.gone l.passed.come l.place
