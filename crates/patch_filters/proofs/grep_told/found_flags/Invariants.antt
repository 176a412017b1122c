use Rattle.std.proofs.Common.{◌≡◌, ◌++◌, drop}
use Rattle.read_file_patch.specs.PlainPatch.{change_of}
use Rattle.patch_filters.specs.Grepped.{IsAsked, hits_of, test_of, written_flags}
use Rattle.patch_filters.proofs.grep_told.found_flags.Given as goal

-- the flags so far, with those that are left
abbrev pub invariant-loop-hunk : goal.invariant-loop-hunk
invariant-loop-hunk g l =
    IsAsked (g.F.Finder.view l.fn.finder) (g.F.Finder.view l.finder)
    × (l.flags.items ++ drop l.hunk (written_flags l.job.output (hits_of l.job.searched (test_of (g.F.Finder.view l.fn.finder)) (change_of l.text l.patch.change)))
    ≡ written_flags l.job.output (hits_of l.job.searched (test_of (g.F.Finder.view l.fn.finder)) (change_of l.text l.patch.change)))
