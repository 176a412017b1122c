use Rattle.std.proofs.Common.{◌&&◌, Bool, false, sym, ap, ◌∙◌}
use Rattle.std.specs.Prelude.{slice_index_or}
use Rattle.std.proofs.lemmas.Option.{same_Some}
use Rattle.read_file_patch.specs.declared.FilePatch.{FilePatch}
use Rattle.read_file_patch.specs.PlainPatch.{change_of}
use Rattle.cli_tool_words.specs.PlainJobs.{plain_filter_job}
use Rattle.filter_choice.specs.Kept.{kept}
use Rattle.filter_choice.proofs.OldLines.{counted}
use Rattle.filter_choice.proofs.kept.keeps.Goals as goal

pub patch_at-requires : goal.patch_at-requires
patch_at-requires c = c.requires.patch

pub is_kept-requires-clause-counted : goal.is_kept-requires-clause-counted
is_kept-requires-clause-counted c = counted c.args.set.now.text c.patch_at.result.now.change c.patch_at.ensures.lawful.change

pub is_kept-requires-clause-within : goal.is_kept-requires-clause-within
is_kept-requires-clause-within c = c.requires.hunk c.patch_at.result.now c.patch_at.ensures.is

pub returns-then-is_taken : goal.returns-then-is_taken
returns-then-is_taken c = λ p is.
    let flag : FilePatch → Bool = λ x. slice_index_or (kept (plain_filter_job c.args.job.now) (change_of c.args.set.now.text x.change)) c.args.hunk false in
    let same = same_Some c.patch_at.result.now p (sym c.patch_at.ensures.is ∙ is) in
    c.is_kept.ensures c.args.set.now.text c.patch_at.ensures.lawful.change ∙ ap flag same ∙ ap (λ b. b && flag p) (sym c.if-is_taken.true ∙ c.is_taken.ensures p is)

pub returns-else-is_taken : goal.returns-else-is_taken
returns-else-is_taken c = λ p is.
    let flag : FilePatch → Bool = λ x. slice_index_or (kept (plain_filter_job c.args.job.now) (change_of c.args.set.now.text x.change)) c.args.hunk false in
    c.if-is_taken.false ∙ ap (λ b. b && flag p) (sym c.if-is_taken.false ∙ c.is_taken.ensures p is)
