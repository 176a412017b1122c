use Rattle.patch_filters.proofs.HunkTexts.{HasLines}
use Rattle.patch_filters.proofs.numbering.put_numbered_from.Given as goal

abbrev pub invariant-loop-place : goal.invariant-loop-place
invariant-loop-place l = HasLines l.text l.side l.fn.number l.hunk.body.items l.fn.out.items l.out.items l.number l.place
