use Rattle.std.proofs.Common.{ap, ◌∙◌}
use Rattle.hunk_core.specs.PlainHunk.{hunks_of}
use Rattle.read_file_patch.specs.PlainPatch.{hunks}
use Rattle.patch_filters.specs.Listed.{has_no_line}
use Rattle.patch_filters.proofs.list.has_no_line.Goals as goal

pub returns-in-Hunks : goal.returns-in-Hunks
returns-in-Hunks c = λ text. rw c.in-Hunks.is (c.is_none_with_line.ensures text ∙ ap (λ hs. has_no_line c.args.side (hunks (hunks_of text hs))) c.deref.ensures.value)
