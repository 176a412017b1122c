use Rattle.std.proofs.Common.{◌≡◌, take, false, Some}
use Rattle.std.specs.List.{list_any}
use Rattle.read_file_patch.specs.declared.FilePatch.{FilePatch}
use Rattle.read_file_patch.specs.PlainPatch.{patch_of}
use Rattle.patch_set.specs.SetView.{patch_at}
use Rattle.cli_tool_words.specs.PlainJobs.{plain_filter_job}
use Rattle.format_convert.specs.Taken.{flags}
use Rattle.format_convert.proofs.kept.has_kept.Given as goal

-- no hunk so far is kept
abbrev pub invariant-loop-hunk : goal.invariant-loop-hunk
invariant-loop-hunk l = (p : FilePatch) → patch_at l.set l.patch ≡ Some p → list_any (λ is. is) (take l.hunk (flags (plain_filter_job l.job) l.patch (patch_of l.set.text p))) ≡ false
