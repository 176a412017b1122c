use Rattle.patch_filters.proofs.Hits.{span_flags}
use Rattle.patch_filters.proofs.Searching.{HasNone}
use Rattle.patch_filters.proofs.search.edit_has_hit.Given as goal

abbrev pub invariant-loop-i : goal.invariant-loop-i
invariant-loop-i g l = HasNone (span_flags l.text l.edit.added.items) (g.F.Finder.view l.fn.finder) (g.F.Finder.view l.finder) l.i
