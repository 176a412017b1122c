use Rattle.std.proofs.Common.{◌++◌}
use Rattle.std.specs.List.{zip}
use Rattle.read_file_patch.specs.PlainPatch.{change_of}
use Rattle.patch_filters.specs.Filtered.{pieces, region, text_if}
use Rattle.patch_filters.specs.Grepped.{hits_of, test_of}
use Rattle.patch_filters.proofs.Finding.{HasFound}
use Rattle.outside.proofs.Loops.{up_to}
use Rattle.patch_filters.proofs.grep.put_parts.Given as goal

abbrev pub invariant-loop-hunk : goal.invariant-loop-hunk
invariant-loop-hunk g l = HasFound g.O.Sink.view g.O.Sink.same_rest (g.F.Finder.view l.fn.finder) (g.F.Finder.view l.finder) l.fn.out l.out (region l.text l.patch ++ up_to text_if (zip (hits_of l.searched (test_of (g.F.Finder.view l.fn.finder)) (change_of l.text l.patch.change)) (pieces l.text l.patch)) l.hunk)
