use Rattle.patch_filters.proofs.Hits.{edit_flags}
use Rattle.patch_filters.proofs.Searching.{HasNone}
use Rattle.patch_filters.proofs.search.edits_have_hit.Given as goal

abbrev pub invariant-loop-i : goal.invariant-loop-i
invariant-loop-i g l = HasNone (edit_flags l.text l.script.edits.items) (g.F.Finder.view l.fn.finder) (g.F.Finder.view l.finder) l.i
