use Rattle.std.proofs.Common.{◌≡◌}
use Rattle.std.specs.List.{zip}
use Rattle.read_file_patch.specs.PlainPatch.{change_of}
use Rattle.patch_filters.specs.Filtered.{pieces, text_if}
use Rattle.patch_filters.specs.Grepped.{hits_of, test_of}
use Rattle.patch_filters.specs.HunkLines.{first_line, hunk_lines}
use Rattle.patch_filters.proofs.Begun.{begun}
use Rattle.patch_filters.proofs.Finding.{HasFound}
use Rattle.outside.proofs.Loops.{up_to}
use Rattle.patch_filters.proofs.grep.put_hit_lines.Given as goal

abbrev pub invariant-loop-hunk : goal.invariant-loop-hunk
invariant-loop-hunk g l =
    HasFound g.O.Sink.view g.O.Sink.same_rest (g.F.Finder.view l.fn.finder) (g.F.Finder.view l.finder) l.fn.out l.out (up_to text_if (zip (hits_of l.searched (test_of (g.F.Finder.view l.fn.finder)) (change_of l.text l.patch.change)) (hunk_lines l.shown.hunk_label.items l.text l.patch)) l.hunk)
    × (l.line ≡ begun (first_line l.patch.header.form l.patch.header.opening) l.hunk (pieces l.text l.patch))
