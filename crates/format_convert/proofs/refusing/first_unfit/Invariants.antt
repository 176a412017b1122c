use Rattle.std.proofs.Common.{◌≡◌, drop}
use Rattle.std.specs.List.{flat_map}
use Rattle.cli_tool_words.specs.PlainJobs.{plain_filter_job}
use Rattle.patch_set.specs.SetView.{plain_patches}
use Rattle.format_convert.specs.Taken.{left_patches}
use Rattle.format_convert.specs.Converted.{rows}
use Rattle.format_convert.proofs.RowLemmas.{row_if}
use Rattle.format_convert.specs.Refusals.{is_unfit}
use Rattle.read_file_patch.specs.PlainPatch.{first_opening}
use Rattle.format_convert.proofs.refusing.first_unfit.Given as goal

-- it isn't one of the file patches so far
abbrev pub invariant-loop-patch : goal.invariant-loop-patch
invariant-loop-patch l = first_opening (is_unfit l.form) (left_patches (plain_filter_job l.job) (plain_patches l.set)) ≡ first_opening (is_unfit l.form) (flat_map (row_if (plain_filter_job l.job) l.set.text) (drop l.patch (rows l.set)))
