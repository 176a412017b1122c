use Rattle.std.proofs.Common.{◌≡◌, Some}
use Rattle.hunk_core.specs.PlainHunk.{hunks_of}
use Rattle.read_file_patch.specs.declared.FilePatch.{FilePatch}
use Rattle.read_file_patch.specs.PlainPatch.{patch_of}
use Rattle.patch_set.specs.SetView.{patch_at}
use Rattle.cli_tool_words.specs.PlainJobs.{plain_filter_job}
use Rattle.format_convert.specs.Taken.{flags}
use Rattle.format_convert.proofs.Parts.{Written}
use Rattle.std.specs.List.{zip}
use Rattle.format_convert.specs.Converted.{pieces, told}
use Rattle.format_convert.proofs.RowLemmas.{kept_from}
use Rattle.format_convert.proofs.hunks.put_each.Given as goal

abbrev pub invariant-loop-number : goal.invariant-loop-number
invariant-loop-number g l = (x : FilePatch) → patch_at l.set l.patch ≡ Some x → Written g.O.Sink.view g.O.Sink.same_rest l.fn.out l.out (kept_from (told l.form x.header.form) (flags (plain_filter_job l.job) l.patch (patch_of l.set.text x)) (zip (pieces l.set.text x) (hunks_of l.set.text l.hunks)) 0) (kept_from (told l.form x.header.form) (flags (plain_filter_job l.job) l.patch (patch_of l.set.text x)) (zip (pieces l.set.text x) (hunks_of l.set.text l.hunks)) l.number)
