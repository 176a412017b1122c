use Rattle.patch_filters.proofs.Hits.{line_flags}
use Rattle.patch_filters.proofs.Searching.{HasNone}
use Rattle.patch_filters.proofs.search.hunk_has_hit.Given as goal

abbrev pub invariant-loop-i : goal.invariant-loop-i
invariant-loop-i g l = HasNone (line_flags l.text l.searched l.hunk.body.items) (g.F.Finder.view l.fn.finder) (g.F.Finder.view l.finder) l.i
