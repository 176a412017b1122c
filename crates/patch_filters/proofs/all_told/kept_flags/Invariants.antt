use Rattle.std.proofs.Common.{◌≡◌, ◌++◌, drop}
use Rattle.read_file_patch.specs.PlainPatch.{change_of}
use Rattle.cli_tool_words.specs.PlainJobs.{plain_filter_job}
use Rattle.filter_choice.specs.Kept.{kept}
use Rattle.patch_filters.proofs.all_told.kept_flags.Given as goal

-- the flags so far, with those that are left
abbrev pub invariant-loop-hunk : goal.invariant-loop-hunk
invariant-loop-hunk l = l.flags.items ++ drop l.hunk (kept (plain_filter_job l.job) (change_of l.set.text l.row.change)) ≡ kept (plain_filter_job l.job) (change_of l.set.text l.row.change)
