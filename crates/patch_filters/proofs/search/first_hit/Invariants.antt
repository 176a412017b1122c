use Rattle.read_file_patch.specs.PlainPatch.{change_of}
use Rattle.patch_filters.specs.Grepped.{hits_of}
use Rattle.patch_filters.proofs.Searching.{HasNone}
use Rattle.patch_filters.proofs.search.first_hit.Given as goal

abbrev pub invariant-loop-hunk : goal.invariant-loop-hunk
invariant-loop-hunk g l = HasNone (λ hit. hits_of l.searched hit (change_of l.text l.patch.change)) (g.F.Finder.view l.fn.finder) (g.F.Finder.view l.finder) l.hunk
