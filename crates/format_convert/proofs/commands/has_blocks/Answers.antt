use Rattle.std.proofs.Common.{not, eqb, length, sym, ap, ◌∙◌, subst}
use Rattle.std.proofs.lemmas.Option.{same_Some}
use Rattle.read_file_patch.specs.declared.Change.{Change}
use Rattle.read_file_patch.specs.declared.FilePatch.{FilePatch}
use Rattle.read_file_patch.specs.PlainPatch.{PlainChange, change_of, patch_of}
use Rattle.cli_tool_words.specs.PlainJobs.{plain_filter_job}
use Rattle.format_convert.specs.Blocks.{blocks_in, blocks_of}
use Rattle.format_convert.specs.Taken.{flags, left_change}
use Rattle.format_convert.proofs.Rows.{left-of}
use Rattle.format_convert.specs.Walk.{IsFound, IsHunks, edit_at, edits_left}
use Rattle.format_convert.proofs.FrontLemmas.{has-block}
use Rattle.format_convert.proofs.Steps.{edits-are}
use Rattle.format_convert.proofs.commands.has_blocks.Goals as goal

pub returns-in-Hunks : goal.returns-in-Hunks
returns-in-Hunks c = λ x at.
    let k = c.kept_of-kept.result in
    c.is_some.ensures
    ∙ has-block c.next_edit.result (edits_left k c.hunk_start.result) (IsFound k c.hunk_start.result) (λ f is. (edit_at k.set.now.text f.edit, edits_left k f.behind, is.left)) c.next_edit.ensures
    ∙ ap (λ es. not (eqb (length (blocks_of es)) 0)) (c.hunk_start.ensures.left ∙ sym (edits-are k))
    ∙ ap (λ (ch : PlainChange). not (eqb (length (blocks_in ch)) 0)) (left-of k c.kept_of-kept.ensures.kept c.args.set.now c.args.job.now c.args.patch x c.kept_of-kept.ensures.set c.kept_of-kept.ensures.job c.kept_of-kept.ensures.patch at)

pub next_edit-requires : goal.next_edit-requires
next_edit-requires c = c.kept_of-kept.ensures.kept

pub hunk_start-requires : goal.hunk_start-requires
hunk_start-requires c = c.kept_of-kept.ensures.kept

pub returns-in-Script : goal.returns-in-Script
returns-in-Script c = λ x at.
    let text = c.args.set.now.text in
    let are = flags (plain_filter_job c.args.job.now) c.args.patch (patch_of text x) in
    let same = same_Some c.patch_at.result.now x (sym c.patch_at.ensures.is ∙ at) in
    c.changes.ensures text
    ∙ ap (λ (ch : Change). not (eqb (length (blocks_in (left_change are (change_of text ch)))) 0)) (sym (ap (λ (y : FilePatch). y.change) (sym same) ∙ c.in-Script.is))

pub kept_of-kept-requires-clause-hunks : goal.kept_of-kept-requires-clause-hunks
kept_of-kept-requires-clause-hunks c = λ x at. subst (λ (ch : Change). IsHunks ch c.deref.result.now) (sym c.in-Hunks.is ∙ ap (λ (p : FilePatch). p.change) (same_Some c.patch_at.result.now x (sym c.patch_at.ensures.is ∙ at))) (sym c.deref.ensures.value)
