use Rattle.std.proofs.Common.{◌≡◌, ◌++◌, ◌∙◌, OnOk, subst, sym}
use Rattle.std.proofs.lemmas.Option.{same_Some}
use Rattle.read_file_patch.specs.declared.FilePatch.{FilePatch}
use Rattle.cli_tool_words.specs.PlainJobs.{plain_filter_job}
use Rattle.patch_filters.specs.Told.{told_if}
use Rattle.patch_filters.proofs.all_told.put_told_at.Goals as goal

pub put_told_if-requires : goal.put_told_if-requires
put_told_if-requires c = record { within = c.requires; at = c.patch_at.ensures.is; lawful = c.patch_at.ensures.lawful; placed = c.patch_at.ensures.placed }

pub returns : goal.returns
returns c = λ p is.
    subst (λ (x : FilePatch). OnOk c.put_told_if.result (c.put_told_if.new.out.items ≡ c.args.out.now.items ++ told_if (plain_filter_job c.args.job.now) c.args.set.now.text (c.args.patch, x)))
    (same_Some c.patch_at.result.now p (sym c.patch_at.ensures.is ∙ is)) c.put_told_if.ensures
