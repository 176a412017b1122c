use Rattle.std.proofs.Common.{ℕ, List, sym, ap, subst, ◌∙◌}
use Rattle.std.proofs.lemmas.Option.{same_Some}
use Rattle.hunk_core.specs.declared.Form.{Form}
use Rattle.hunk_core.specs.declared.Form.TheVariants.{Normal, Ed}
use Rattle.outside.specs.Puts.{Puts}
use Rattle.outside.proofs.SinkSteps.{HasPut, has-none, puts-done}
use Rattle.ed_form.specs.PlainEdit.{edits_of, IsLawfulScript}
use Rattle.read_file_patch.specs.declared.Change.{Change}
use Rattle.read_file_patch.specs.declared.FilePatch.{FilePatch}
use Rattle.read_file_patch.specs.PlainPatch.{PlainChange, change_of, patch_of, script, IsLawfulChange}
use Rattle.cli_tool_words.specs.PlainJobs.{plain_filter_job}
use Rattle.format_convert.specs.Commands.{command_text}
use Rattle.format_convert.specs.Taken.{flags, left_change, left_patch}
use Rattle.format_convert.proofs.Rows.{left-of}
use Rattle.format_convert.specs.Walk.{IsHunks}
use Rattle.format_convert.proofs.commands.put_commands.Goals as goal

pub returns-in-Hunks : goal.returns-in-Hunks
returns-in-Hunks g c = λ x at.
    subst (λ (ch : PlainChange). Puts g.O.Sink.view g.O.Sink.same_rest c.args.out.now c.put_hunks.new.out c.put_hunks.result (command_text c.args.form ch))
    (left-of c.kept_of.result c.kept_of.ensures.kept c.args.set.now c.args.job.now c.args.patch x c.kept_of.ensures.set c.kept_of.ensures.job c.kept_of.ensures.patch at)
    c.put_hunks.ensures

pub returns-in-Unified : goal.returns-in-Unified
returns-in-Unified g c = λ x at.
    let left = (left_patch (plain_filter_job c.args.job.now) c.args.patch (patch_of c.args.set.now.text x)).change in
    puts-done _ (subst (λ (bs : List ℕ). HasPut g.O.Sink.view g.O.Sink.same_rest c.args.out.now c.args.out.now bs) (ap (λ (f : Form). command_text f left) (sym c.in-Unified.is)) (has-none g.met.O.Sink.rest_none c.args.out.now))

pub returns-in-Context : goal.returns-in-Context
returns-in-Context g c = λ x at.
    let left = (left_patch (plain_filter_job c.args.job.now) c.args.patch (patch_of c.args.set.now.text x)).change in
    puts-done _ (subst (λ (bs : List ℕ). HasPut g.O.Sink.view g.O.Sink.same_rest c.args.out.now c.args.out.now bs) (ap (λ (f : Form). command_text f left) (sym c.in-Context.is)) (has-none g.met.O.Sink.rest_none c.args.out.now))

pub returns-in-Normal : goal.returns-in-Normal
returns-in-Normal g c = λ x at.
    let text = c.args.set.now.text in
    let are = flags (plain_filter_job c.args.job.now) c.args.patch (patch_of text x) in
    let same = same_Some c.patch_at.result.now x (sym c.patch_at.ensures.is ∙ at) in
    let there = ap (λ (ch : Change). left_change are (change_of text ch)) (sym (ap (λ (y : FilePatch). y.change) (sym same) ∙ c.in-Script.is)) in
    let left = (left_patch (plain_filter_job c.args.job.now) c.args.patch (patch_of c.args.set.now.text x)).change in
    puts-done _ (subst (λ (bs : List ℕ). HasPut g.O.Sink.view g.O.Sink.same_rest c.args.out.now c.args.out.now bs) (ap (command_text Normal) there ∙ ap (λ (f : Form). command_text f left) (sym c.in-Normal.is)) (has-none g.met.O.Sink.rest_none c.args.out.now))

pub returns-in-Ed : goal.returns-in-Ed
returns-in-Ed g c = λ x at.
    let text = c.args.set.now.text in
    let are = flags (plain_filter_job c.args.job.now) c.args.patch (patch_of text x) in
    let same = same_Some c.patch_at.result.now x (sym c.patch_at.ensures.is ∙ at) in
    let there = ap (λ (ch : Change). left_change are (change_of text ch)) (sym (ap (λ (y : FilePatch). y.change) (sym same) ∙ c.in-Script.is)) in
    let left = (left_patch (plain_filter_job c.args.job.now) c.args.patch (patch_of c.args.set.now.text x)).change in
    subst (λ (bs : List ℕ). Puts g.O.Sink.view g.O.Sink.same_rest c.args.out.now c.put_script.new.out c.put_script.result bs)
    (ap (λ (t : List ℕ). command_text Ed (script (edits_of t c.in-Script.script.edits.items))) c.text.ensures ∙ ap (command_text Ed) there ∙ ap (λ (f : Form). command_text f left) (sym c.in-Ed.is))
    c.put_script.ensures

pub put_script-requires : goal.put_script-requires
put_script-requires g c = subst (λ (t : List ℕ). IsLawfulScript t c.in-Script.script) (sym c.text.ensures) (subst (IsLawfulChange c.args.set.now.text) c.in-Script.is c.patch_at.ensures.lawful.change)

pub kept_of-requires-clause-hunks : goal.kept_of-requires-clause-hunks
kept_of-requires-clause-hunks g c = λ x at. subst (λ (ch : Change). IsHunks ch c.deref.result.now) (sym c.in-Hunks.is ∙ ap (λ (p : FilePatch). p.change) (same_Some c.patch_at.result.now x (sym c.patch_at.ensures.is ∙ at))) (sym c.deref.ensures.value)

pub kept_of-requires-clause-within : goal.kept_of-requires-clause-within
kept_of-requires-clause-within g c = c.requires

pub patch_at-requires : goal.patch_at-requires
patch_at-requires g c = c.requires
