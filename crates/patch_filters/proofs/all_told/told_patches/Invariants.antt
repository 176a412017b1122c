use Rattle.std.proofs.Common.{◌≡◌, ◌++◌, drop}
use Rattle.std.specs.List.{flat_map}
use Rattle.cli_tool_words.specs.PlainJobs.{plain_filter_job}
use Rattle.patch_filters.specs.Told.{told_if}
use Rattle.patch_filters.proofs.HunkTexts.{rows}
use Rattle.patch_filters.proofs.all_told.told_patches.Given as goal

-- the file patches so far, with those that are left
abbrev pub invariant-loop-patch : goal.invariant-loop-patch
invariant-loop-patch l = l.out.items ++ flat_map (told_if (plain_filter_job l.job) l.set.text) (drop l.patch (rows l.set.patches)) ≡ flat_map (told_if (plain_filter_job l.job) l.set.text) (rows l.set.patches)
