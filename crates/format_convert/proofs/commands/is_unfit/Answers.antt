use Rattle.std.proofs.Common.{◌≡◌, ◌&&◌, ℕ, List, Bool, true, false, refl, sym, ap, subst, ◌∙◌}
use Rattle.hunk_core.specs.declared.Form.{Form}
use Rattle.ed_form.specs.declared.script.EdScript.{EdScript}
use Rattle.ed_form.specs.PlainEdit.{IsLawfulScript, edits_of}
use Rattle.read_file_patch.specs.declared.Change.TheVariants.{Script}
use Rattle.std.proofs.lemmas.Option.{same_Some}
use Rattle.read_file_patch.specs.declared.Change.{Change}
use Rattle.read_file_patch.specs.declared.FilePatch.{FilePatch}
use Rattle.read_file_patch.specs.PlainPatch.{IsLawfulChange, change_of, patch_of}
use Rattle.cli_tool_words.specs.PlainJobs.{plain_filter_job}
use Rattle.format_convert.specs.Fitting.{is_ed, is_unfit}
use Rattle.format_convert.proofs.SmallLemmas.{script-small}
use Rattle.format_convert.specs.Taken.{flags, left_change}
use Rattle.format_convert.proofs.Rows.{left-of}
use Rattle.format_convert.specs.Walk.{IsHunks}
use Rattle.format_convert.proofs.commands.is_unfit.Goals as goal

pub returns-in-Hunks : goal.returns-in-Hunks
returns-in-Hunks c = λ x at.
    c.are_unfit.ensures
    ∙ ap (is_unfit c.args.form) (left-of c.kept_of.result c.kept_of.ensures.kept c.args.set.now c.args.job.now c.args.patch x c.kept_of.ensures.set c.kept_of.ensures.job c.kept_of.ensures.patch at)

-- a script has no number that is too large
script-fits : (text : List ℕ) (form : Form) (are : List Bool) (ch : Change) (s : EdScript) → ch ≡ Script s → IsLawfulChange text ch → false ≡ is_unfit form (left_change are (change_of text ch))
script-fits text form are ch s is lawful =
    let own : IsLawfulScript text s = subst (IsLawfulChange text) is lawful in
    sym (ap (λ (x : Change). is_unfit form (left_change are (change_of text x))) is
    ∙ ap (λ (b : Bool). is_ed form && b) (script-small (edits_of text s.edits.items) own.edits)
    ∙ and-false (is_ed form))
  where
    and-false : (b : Bool) → (b && false) ≡ false
    and-false true = refl
    and-false false = refl

pub returns-in-Script : goal.returns-in-Script
returns-in-Script c = λ x at.
    let text = c.args.set.now.text in
    let are = flags (plain_filter_job c.args.job.now) c.args.patch (patch_of text x) in
    let same = same_Some c.patch_at.result.now x (sym c.patch_at.ensures.is ∙ at) in
    script-fits text c.args.form are c.patch_at.result.now.change _ c.in-Script.is c.patch_at.ensures.lawful.change
    ∙ ap (λ (y : FilePatch). is_unfit c.args.form (left_change are (change_of text y.change))) same

pub kept_of-requires-clause-hunks : goal.kept_of-requires-clause-hunks
kept_of-requires-clause-hunks c = λ x at. subst (λ (ch : Change). IsHunks ch c.deref.result.now) (sym c.in-Hunks.is ∙ ap (λ (p : FilePatch). p.change) (same_Some c.patch_at.result.now x (sym c.patch_at.ensures.is ∙ at))) (sym c.deref.ensures.value)
